-- What follows for every statement.
use Rattle.std.specs.Prelude.{◌≡◌, ◌<◌, ◌≤◌, ℕ, List, length}
use Rattle.sqlval.specs.Refusals.{Refusal}
use Rattle.sql_syntax.specs.declared.statement.Statement.{Statement}
use Rattle.session.specs.Machine.{Machine, Reply, Refused, connection, committed}
use Rattle.session.specs.Steps.{Step}
use Rattle.session.specs.Texts.{Grammar, TextStep}

-- a refused statement adds no committed database
abbrev pub RefusalsAddNothing : Type 0
RefusalsAddNothing = (m : Machine) (c : ℕ) (s : Statement) (r : Refusal) (new : Machine) → Step m c s (Refused r) new → new.history ≡ m.history

-- also where statements are texts
abbrev pub TextRefusalsAddNothing : Type 1
TextRefusalsAddNothing = (g : Grammar) (m : Machine) (c : ℕ) (text : List ℕ) (r : Refusal) (new : Machine) → TextStep g m c text (Refused r) new → new.history ≡ m.history

-- except for that connection and what is committed after, the machine is as it was: each other connection with its
-- snapshot and its savepoints, and the database at each place
pub record IsBeside (old : Machine) (c : ℕ) (new : Machine) : Type 0 where
  pub others : (d : ℕ) → 1 ≤ d → (d ≡ c → ⊥) → connection new d ≡ connection old d
  pub longer : length old.history ≤ length new.history
  pub kept : (i : ℕ) → i < length old.history → committed new i ≡ committed old i

-- A statement of one connection leaves what the others see.
abbrev pub LeavesOthers : Type 0
LeavesOthers = (m : Machine) (c : ℕ) (s : Statement) (reply : Reply) (new : Machine) → Step m c s reply new → IsBeside m c new
