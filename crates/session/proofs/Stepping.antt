-- Steps of a connection.
use Rattle.std.proofs.Common.{◌≡◌, inl, inr, refl, sym, ap, subst, ℕ, [], ◌∷◌, true, false}
use Rattle.std.specs.Prelude.{if◌then◌else◌}
use Rattle.sqlval.specs.Refusals.{Busy}
use Rattle.sql_syntax.specs.declared.query.Query.{Query}
use Rattle.sql_syntax.specs.declared.statement.BeginMode.{BeginMode}
use Rattle.sql_syntax.specs.declared.statement.BeginMode.TheVariants as begins
use Rattle.sql_syntax.specs.declared.statement.CheckpointMode.{CheckpointMode}
use Rattle.sql_syntax.specs.declared.statement.Statement.{Statement}
use Rattle.sql_syntax.specs.declared.statement.Statement.TheVariants as statement
use Rattle.catalog.specs.Database.{Name}
use Rattle.session.specs.TooLong.{StepOrTooLong}
use Rattle.session.specs.Machine.{Machine, Connection, InTransactionOf, NoSnapshot, Writes, Reply, another, connection, is_writing, last_place, newest, with_connection}
use Rattle.session.specs.Outcomes.{Outcome, Gives, RefusedBy, outcome, read_outcome, control, begun}
use Rattle.session.specs.Steps.{Allowed, Instead, is_connection}

-- ---- what a step may be

module _ (m : Machine) (n : ℕ) (s : Statement) (running : m.failed ≡ false) (numbered : is_connection n ≡ true) where
  pub by_outcome : (o : Outcome) (reply : Reply) (next : Machine) → outcome m n s ≡ o → Allowed m n o reply next → StepOrTooLong m n s reply next
  by_outcome o reply next is allowed = inl (inr (inr (running, numbered, inl (subst (λ x. Allowed m n x reply next) (sym is) allowed))))

  pub instead : (o : Outcome) (reply : Reply) → outcome m n s ≡ o → Instead m o reply m → StepOrTooLong m n s reply m
  instead o reply is free = inl (inr (inr (running, numbered, inr (subst (λ x. Instead m x reply m) (sym is) free))))

-- ---- outcomes by what the connection is

pub rollback_outcome : (m : Machine) (n : ℕ) (k : Connection) → connection m n ≡ k → outcome m n statement.Rollback ≡ control statement.Rollback m n k
unfolding outcome
rollback_outcome m n k is = ap (control statement.Rollback m n) is

pub commit_outcome_of : (m : Machine) (n : ℕ) (k : Connection) → connection m n ≡ k → outcome m n statement.Commit ≡ control statement.Commit m n k
unfolding outcome
commit_outcome_of m n k is = ap (control statement.Commit m n) is

pub checkpoint_outcome : (mode : CheckpointMode) (m : Machine) (n : ℕ) (k : Connection) → connection m n ≡ k → outcome m n (statement.Checkpoint mode) ≡ control (statement.Checkpoint mode) m n k
unfolding outcome
checkpoint_outcome mode m n k is = ap (control (statement.Checkpoint mode) m n) is

pub begin_outcome : (mode : BeginMode) (m : Machine) (n : ℕ) (k : Connection) → connection m n ≡ k → outcome m n (statement.Begin mode) ≡ control (statement.Begin mode) m n k
unfolding outcome
begin_outcome mode m n k is = ap (control (statement.Begin mode) m n) is

pub select_outcome : (q : Query) (m : Machine) (n : ℕ) (k : Connection) → connection m n ≡ k → outcome m n (statement.Select q) ≡ read_outcome m n q k
unfolding outcome
select_outcome q m n k is = ap (read_outcome m n q) is

-- a transaction that begins
abbrev pub begun_as : BeginMode → Machine → Connection
begun_as begins.Deferred m = InTransactionOf false [] NoSnapshot
begun_as begins.Immediate m = InTransactionOf false [] (Writes (last_place m) (newest m))

pub free_begin : (mode : BeginMode) (m : Machine) (n : ℕ) → another is_writing m n ≡ false → begun mode m n ≡ Gives [] (with_connection m n (begun_as mode m))
free_begin begins.Deferred m n free = refl
free_begin begins.Immediate m n free = ap (λ b. if b then RefusedBy (Busy ∷ []) else Gives [] (with_connection m n (begun_as begins.Immediate m))) free

pub busy_begin : (m : Machine) (n : ℕ) → another is_writing m n ≡ true → begun begins.Immediate m n ≡ RefusedBy (Busy ∷ [])
busy_begin m n busy = ap (λ b. if b then RefusedBy (Busy ∷ []) else Gives [] (with_connection m n (begun_as begins.Immediate m))) busy

pub savepoint_outcome : (name : Name) (m : Machine) (n : ℕ) (k : Connection) → connection m n ≡ k → outcome m n (statement.Savepoint name) ≡ control (statement.Savepoint name) m n k
unfolding outcome
savepoint_outcome name m n k is = ap (control (statement.Savepoint name) m n) is

pub release_outcome : (name : Name) (m : Machine) (n : ℕ) (k : Connection) → connection m n ≡ k → outcome m n (statement.Release name) ≡ control (statement.Release name) m n k
unfolding outcome
release_outcome name m n k is = ap (control (statement.Release name) m n) is

pub return_outcome : (name : Name) (m : Machine) (n : ℕ) (k : Connection) → connection m n ≡ k → outcome m n (statement.RollbackTo name) ≡ control (statement.RollbackTo name) m n k
unfolding outcome
return_outcome name m n k is = ap (control (statement.RollbackTo name) m n) is
