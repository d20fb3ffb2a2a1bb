-- What each statement of a connection comes to where memory, disk and room suffice (SQL As Understood By SQLite, "BEGIN TRANSACTION", "SAVEPOINT"; Pragma statements, "wal_checkpoint").
use Rattle.std.specs.Prelude.{ℕ, Bool, true, false, List, [], ◌∷◌, length, Option, Some, None, Ok, Err, if◌then◌else◌, nat_lt, ◌==◌}
use Rattle.sqlval.specs.Names.{folded, is_same_name}
use Rattle.sqlval.specs.Refusals.{Answer, Refusal, Busy, StaleSnapshot, NoTransaction, InTransaction, NoSavepoint, Raised, RaisedRollback, TooLong}
use Rattle.sqlval.specs.declared.value.Value.{Value}
use Rattle.sql_syntax.specs.declared.change.Change.{Change}
use Rattle.sql_syntax.specs.declared.query.Query.{Query}
use Rattle.sql_syntax.specs.declared.statement.BeginMode.{BeginMode}
use Rattle.sql_syntax.specs.declared.statement.BeginMode.TheVariants as begins
use Rattle.sql_syntax.specs.declared.statement.CheckpointMode.{CheckpointMode}
use Rattle.sql_syntax.specs.declared.statement.Statement.{Statement}
use Rattle.sql_syntax.specs.declared.statement.Statement.TheVariants as statement
use Rattle.catalog.specs.Database.{Name, Database}
use Rattle.query_names.specs.Checked.{Checked, Meant}
use Rattle.executor.specs.Works.{Work, Makes, IsRefused, Binds, Sort, Querying, Writing, Controlling, sort, read_on}
use Rattle.session.specs.Machine.{Machine, Connection, Idle, InTransactionOf, Phase, NoSnapshot, Reads, Writes, SavepointState, last_place, committed, newest, connection, with_connection, is_writing, another}

-- what a statement comes to where memory, disk and room suffice
pub data Outcome : Type 0 where
  -- these rows, and this state
  Gives : List (List Value) → Machine → Outcome
  -- one of these
  RefusedBy : List Refusal → Outcome
  -- the database is committed and the connection idle; whether it is a statement of its own
  Commits : Bool → Database → Outcome
  Copies : CheckpointMode → Outcome
  -- this, where binding the change and what it can set off on the database isn't refused
  Bound : Database → Change → Outcome → Outcome

-- ---- reading

-- a refusal as a connection answers it
abbrev pub answered : Refusal → Refusal
answered (RaisedRollback t) = Raised t
answered r = r

-- the machine after a refusal: RAISE(ROLLBACK) ends the connection's transaction, and every other leaves all as it was
abbrev pub left_by : Machine → ℕ → Refusal → Machine
left_by m c (RaisedRollback t) = with_connection m c Idle
left_by m c r = m

-- the rows, in this state
abbrev pub given : Machine → Checked (Answer (List (List Value))) → Outcome
given m (Meant a (r ∷ rs)) = RefusedBy (r ∷ rs)
given m (Meant (Err r) []) = RefusedBy (r ∷ [])
given m (Meant (Ok rows) []) = Gives rows m

-- a query on what the connection sees; the first one takes the snapshot
abbrev pub read_outcome : Machine → ℕ → Query → Connection → Outcome
read_outcome m c q Idle = given m (read_on (newest m) q)
read_outcome m c q (InTransactionOf b ss NoSnapshot) = given (with_connection m c (InTransactionOf b ss (Reads (last_place m)))) (read_on (newest m) q)
read_outcome m c q (InTransactionOf b ss (Reads i)) = given m (read_on (committed m i) q)
read_outcome m c q (InTransactionOf b ss (Writes i db)) = given m (read_on db q)

-- ---- writing

-- in a transaction: the working database is the new one
abbrev pub worked : Machine → ℕ → Bool → List SavepointState → ℕ → Work → Outcome
worked m c b ss i (Makes db) = Gives [] (with_connection m c (InTransactionOf b ss (Writes i db)))
worked m c b ss i (IsRefused rs) = RefusedBy rs
worked m c b ss i (Binds db ch w) = Bound db ch (worked m c b ss i w)

-- in a statement of its own, what is made is committed
abbrev pub worked_alone : Work → Machine → Outcome
worked_alone (Makes db) m = Commits true db
worked_alone (IsRefused rs) m = RefusedBy rs
worked_alone (Binds db ch w) m = Bound db ch (worked_alone w m)

-- refused where another connection holds the write right
abbrev pub unless_busy : Machine → ℕ → Outcome → Outcome
unless_busy m c o = if another is_writing m c then RefusedBy (Busy ∷ []) else o

-- a write on what the connection sees, which is to be the newest database
abbrev pub write_outcome : Machine → ℕ → (Database → Work) → Connection → Outcome
write_outcome m c w Idle = unless_busy m c (worked_alone (w (newest m)) m)
write_outcome m c w (InTransactionOf b ss NoSnapshot) = unless_busy m c (worked m c b ss (last_place m) (w (newest m)))
write_outcome m c w (InTransactionOf b ss (Reads i)) =
    if i == last_place m then unless_busy m c (worked m c b ss i (w (committed m i))) else RefusedBy (StaleSnapshot ∷ [])
write_outcome m c w (InTransactionOf b ss (Writes i db)) = worked m c b ss i (w db)

-- ---- transactions

-- the end of a transaction
abbrev pub commit_outcome : Machine → ℕ → Phase → Outcome
commit_outcome m c (Writes i db) = Commits false db
commit_outcome m c _ = Gives [] (with_connection m c Idle)

-- the savepoints from the newest of the name on
abbrev pub from_name : Name → List SavepointState → List SavepointState
from_name n [] = []
from_name n (s ∷ ss) = if is_same_name n s.name then (s ∷ ss) else from_name n ss

-- RELEASE; the outermost savepoint that began the transaction ends it
abbrev pub released : Machine → ℕ → Bool → Phase → List SavepointState → Outcome
released m c b p [] = RefusedBy (NoSavepoint ∷ [])
released m c true p (s ∷ []) = commit_outcome m c p
released m c b p (s ∷ ss) = Gives [] (with_connection m c (InTransactionOf b ss p))

-- the phase with the database that a savepoint was made over
abbrev pub back_to : Machine → Option Database → Phase → Phase
back_to m (Some db) (Writes i _) = Writes i db
back_to m None (Writes i _) = Writes i (committed m i)
back_to m _ p = p

-- ROLLBACK TO, which leaves the savepoint
abbrev pub restored : Machine → ℕ → Bool → Phase → List SavepointState → Outcome
restored m c b p [] = RefusedBy (NoSavepoint ∷ [])
restored m c b p (s ∷ ss) = Gives [] (with_connection m c (InTransactionOf b (s ∷ ss) (back_to m s.working p)))

abbrev working_of : Phase → Option Database
working_of (Writes i db) = Some db
working_of _ = None

-- SAVEPOINT, at most 64 of them
abbrev pub saved : Machine → ℕ → Name → Connection → Outcome
saved m c n Idle = Gives [] (with_connection m c (InTransactionOf true (record { name = folded n; working = None } ∷ []) NoSnapshot))
saved m c n (InTransactionOf b ss p) =
    if nat_lt 63 (length ss) then RefusedBy (TooLong ∷ [])
    else (Gives [] (with_connection m c (InTransactionOf b (record { name = folded n; working = working_of p } ∷ ss) p)))

-- BEGIN
abbrev pub begun : BeginMode → Machine → ℕ → Outcome
begun begins.Deferred m c = Gives [] (with_connection m c (InTransactionOf false [] NoSnapshot))
begun begins.Immediate m c = unless_busy m c (Gives [] (with_connection m c (InTransactionOf false [] (Writes (last_place m) (newest m)))))

-- transactions, savepoints and checkpoints
abbrev pub control : Statement → Machine → ℕ → Connection → Outcome
control (statement.Begin mode) m c Idle = begun mode m c
control (statement.Begin mode) m c _ = RefusedBy (InTransaction ∷ [])
control statement.Commit m c (InTransactionOf b ss p) = commit_outcome m c p
control statement.Rollback m c (InTransactionOf b ss p) = Gives [] (with_connection m c Idle)
control (statement.Savepoint n) m c k = saved m c n k
control (statement.Release n) m c (InTransactionOf b ss p) = released m c b p (from_name n ss)
control (statement.RollbackTo n) m c (InTransactionOf b ss p) = restored m c b p (from_name n ss)
control (statement.Release n) m c Idle = RefusedBy (NoSavepoint ∷ [])
control (statement.RollbackTo n) m c Idle = RefusedBy (NoSavepoint ∷ [])
control (statement.Checkpoint mode) m c Idle = Copies mode
control (statement.Checkpoint mode) m c _ = RefusedBy (InTransaction ∷ [])
control _ m c _ = RefusedBy (NoTransaction ∷ [])

-- by what the statement is
abbrev pub sorted_outcome : Sort → Statement → Machine → ℕ → Connection → Outcome
sorted_outcome (Querying q) s m c k = read_outcome m c q k
sorted_outcome (Writing w) s m c k = write_outcome m c w k
sorted_outcome Controlling s m c k = control s m c k

-- what a connection's statement comes to
unfoldable pub outcome : Machine → ℕ → Statement → Outcome
outcome m c s = sorted_outcome (sort s) s m c (connection m c)
