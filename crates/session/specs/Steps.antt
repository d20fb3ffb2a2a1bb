-- What a statement may answer, and the machine after it.
use Rattle.std.specs.Prelude.{◌≡◌, ℕ, ◌≤◌, Bool, true, false, ◌&&◌, ◌⊎◌, List, [], ◌∷◌, ◌++◌, pos, Some, if◌then◌else◌, nat_lt, Contains}
use Rattle.sqlval.specs.Refusals.{Refusal, Memory, Io, Full, Misuse, Failed}
use Rattle.sqlval.specs.declared.value.Value.{Value}
use Rattle.sqlval.specs.declared.value.Value.TheVariants.{Int}
use Rattle.sql_syntax.specs.declared.statement.CheckpointMode.{CheckpointMode}
use Rattle.sql_syntax.specs.declared.statement.CheckpointMode.TheVariants as checkpoint
use Rattle.sql_syntax.specs.declared.statement.Statement.{Statement}
use Rattle.catalog.specs.Database.{Database}
use Rattle.trigger.specs.Binding.{IsFault}
use Rattle.session.specs.Machine.{Machine, Idle, Reply, Rows, Refused, with_connection, has_snapshot, another}
use Rattle.session.specs.Outcomes.{Outcome, Gives, RefusedBy, Commits, Copies, Bound, answered, left_by, outcome}

abbrev pub is_free : Refusal → Bool
is_free Memory = true
is_free Full = true
is_free _ = false

-- the next machine after a commit
abbrev pub after_commit : Machine → ℕ → Database → Machine
after_commit m c db = record (with_connection m c Idle) { history = m.history ++ db ∷ [] }

-- the machine, which answers no more
abbrev pub fails : Machine → Machine
fails m = record m { failed = true }

-- a checkpoint that is more than passive wants no other connection's snapshot
abbrev blocked : CheckpointMode → Machine → ℕ → Bool
blocked checkpoint.Passive m c = false
blocked _ m c = another has_snapshot m c

abbrev number : ℕ → Value
number n = Int (pos n)

-- what may be answered where this is the outcome
abbrev pub Allowed : Machine → ℕ → Outcome → Reply → Machine → Type 0
Allowed m c (Gives rows m') reply new = (reply ≡ Rows rows) × (new ≡ m')
Allowed m c (RefusedBy rs) reply new = (r : Refusal) × Contains rs r × (reply ≡ Refused (answered r)) × (new ≡ left_by m c r)
-- the automatic checkpoint may fail
Allowed m c (Commits alone db) (Rows rows) new = (rows ≡ []) × ((new ≡ after_commit m c db) ⊎ (new ≡ fails (after_commit m c db)))
-- the commit may fail; then the database is in doubt, or surely lost
Allowed m c (Commits alone db) (Refused r) new = (r ≡ Io) × ((new ≡ fails m) ⊎ (new ≡ record (fails m) { in_doubt = Some db }))
Allowed m c (Copies mode) (Rows rows) new =
    (n : ℕ) × (copied : ℕ) × (copied ≤ n) × (rows ≡ (number (if blocked mode m c then 1 else 0) ∷ number n ∷ number copied ∷ []) ∷ []) × (new ≡ m)
Allowed m c (Copies mode) (Refused r) new = (r ≡ Io) × (new ≡ fails m)
Allowed m c (Bound db ch o) reply new =
    ((r : Refusal) × IsFault db ch r × (reply ≡ Refused (answered r)) × (new ≡ left_by m c r))
    ⊎ ((r : Refusal) → IsFault db ch r → ⊥) × Allowed m c o reply new

-- a failed call of a disk may stand in place of an answer and change nothing, but in a commit or a checkpoint
abbrev may_fail : Outcome → Bool
may_fail (Commits alone db) = alone
may_fail (Copies mode) = false
may_fail (Bound db ch o) = may_fail o
may_fail _ = true

-- lack of memory, of room, or a disk in place of the answer
abbrev pub Instead : Machine → Outcome → Reply → Machine → Type 0
Instead m o (Refused r) new = ((is_free r ≡ true) ⊎ (r ≡ Io) × (may_fail o ≡ true)) × (new ≡ m)
Instead m o (Rows rows) new = ⊥

-- 1 to 16
abbrev pub is_connection : ℕ → Bool
is_connection c = nat_lt 0 c && nat_lt c 17

-- from the old state the connection's statement may be answered so, and leave the new state
abbrev pub Step : Machine → ℕ → Statement → Reply → Machine → Type 0
Step m c s reply new =
    (m.failed ≡ true) × (reply ≡ Refused Failed) × (new ≡ m)
    ⊎ (m.failed ≡ false) × (is_connection c ≡ false) × (reply ≡ Refused Misuse) × (new ≡ m)
    ⊎ (m.failed ≡ false) × (is_connection c ≡ true) × (Allowed m c (outcome m c s) reply new ⊎ Instead m (outcome m c s) reply new)

-- ---- runs

-- statements one after another, each with its reply
abbrev pub Run : Machine → List (ℕ × Statement) → List Reply → Machine → Type 0
Run m [] [] new = new ≡ m
Run m (s ∷ ss) (r ∷ rs) new = (mid : Machine) × Step m s.0 s.1 r mid × Run mid ss rs new
Run m [] (r ∷ rs) new = ⊥
Run m (s ∷ ss) [] new = ⊥
