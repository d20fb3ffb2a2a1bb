-- Worked examples of connections.
use Rattle.std.specs.Prelude.{◌≡◌, Bool, true, false, refl, ℕ, zero, suc, pos, codes, None, Some, Err, List, [], ◌∷◌, ◌++◌}
use Rattle.std.proofs.Common.{inl, inr, arith, sym, subst, ◌⊎◌}
use mathlib.Core.Bool.{true≢false}
use Rattle.sqlval.specs.Refusals.{Busy, Exists, StaleSnapshot, NoTransaction, NoSavepoint, InTransaction, Misuse, NoSuch, Raised, RaisedRollback, TooLong, Unique}
use Rattle.sqlval.specs.declared.value.Value.{Value}
use Rattle.sql_syntax.specs.Tree.{Binary, Raise}
use Rattle.sql_syntax.specs.declared.create.NewObject.TheVariants as new
use Rattle.sql_syntax.specs.declared.create.TriggerEvent.TheVariants.{Insert, Delete}
use Rattle.sql_syntax.specs.declared.create.TriggerStatement.TheVariants as program
use Rattle.sql_syntax.specs.declared.create.TriggerTime.TheVariants.{After}
use Rattle.sql_syntax.specs.declared.expr.Operator.TheVariants as op
use Rattle.sql_syntax.specs.declared.expr.RaiseAction.TheVariants.{Rollback}
use Rattle.sql_syntax.specs.declared.statement.BeginMode.TheVariants as begins
use Rattle.sql_syntax.specs.declared.statement.CheckpointMode.TheVariants as checkpoint
use Rattle.sql_syntax.specs.declared.statement.ObjectKind.TheVariants as kind
use Rattle.sql_syntax.specs.declared.statement.Statement.{Statement}
use Rattle.sql_syntax.specs.declared.statement.Statement.TheVariants as statement
use Rattle.catalog.specs.Database.{Name, Database, ATrigger, with_object}
use Rattle.query_names.specs.Checked.{Meant}
use Rattle.query_names.proofs.Written.{number, named, named_of, select, result, delete, column_with, col, table, int, insert}
use Rattle.trigger.specs.Binding.{IsFault}
use Rattle.trigger.proofs.BindingRows.{no_faults_behind}
use Rattle.session.specs.Machine.{InTransactionOf, Machine, NoSnapshot, Reply, Rows, Refused, fresh, with_connection}
use Rattle.session.specs.Outcomes.{given, outcome}
use Rattle.session.specs.Steps.{Step, Allowed, after_commit}
use Rattle.session.proofs.Replies.{replies, ok, creating, create_table, inserting, selecting, begin}

abbrev t : Name
t = codes "t"

abbrev a : Name
a = codes "a"

abbrev create : Statement
create = create_table t (column_with a [] [] ∷ [])

abbrev add : ℕ → Statement
add n = inserting t (number n ∷ [])

abbrev read : Statement
read = selecting (named a ∷ []) t

abbrev x : Name
x = codes "x"

-- CREATE INDEX x ON t(a), or CREATE UNIQUE INDEX
abbrev indexing : Bool → Statement
indexing is_unique = creating (new.Index (record { is_unique = is_unique; name = x; table = t; columns = record { name = a; collation = None } ∷ [] }))

-- DROP INDEX x
abbrev dropping : Statement
dropping = statement.Drop kind.Index x

-- INSERT INTO nosuch VALUES (1)
abbrev into_nosuch : Statement
into_nosuch = inserting (codes "nosuch") (number 1 ∷ [])

abbrev times : {A : Type 0} → ℕ → A → List A
times zero a = []
times (suc n) a = a ∷ times n a

abbrev i : ℕ → List Value
i n = int n ∷ []

-- an index is made and dropped once, beside rows that come
pub indexed : replies (fresh []) ((1, create) ∷ (1, add 1) ∷ (2, indexing false) ∷ (1, indexing false) ∷ (1, add 2) ∷ (1, read) ∷ (1, dropping) ∷ (1, dropping) ∷ [])
    ≡ ok ∷ ok ∷ ok ∷ Refused Exists ∷ ok ∷ Rows (i 1 ∷ i 2 ∷ []) ∷ ok ∷ Refused NoSuch ∷ []
unfolding outcome
indexed = refl

-- of two rows with one key the second is refused where the index is UNIQUE, and such an index isn't made over them
pub unique_indexed : replies (fresh []) ((1, create) ∷ (1, add 1) ∷ (1, indexing true) ∷ (1, add 1) ∷ (1, add 2) ∷ (1, dropping) ∷ (1, add 1) ∷ (1, indexing true) ∷ [])
    ≡ ok ∷ ok ∷ ok ∷ Refused Unique ∷ ok ∷ ok ∷ ok ∷ Refused Unique ∷ []
unfolding outcome
unique_indexed = refl

pub snapshots : replies (fresh []) ((1, create) ∷ (1, add 1) ∷ (1, begin) ∷ (1, read) ∷ (2, add 2) ∷ (1, read) ∷ (1, add 3) ∷ (1, statement.Commit) ∷ (1, add 3) ∷ (1, read) ∷ [])
    ≡ ok ∷ ok ∷ ok ∷ Rows (i 1 ∷ []) ∷ ok ∷ Rows (i 1 ∷ []) ∷ Refused StaleSnapshot ∷ ok ∷ ok ∷ Rows (i 1 ∷ i 2 ∷ i 3 ∷ []) ∷ []
unfolding outcome
snapshots = refl

pub busy : replies (fresh []) ((1, create) ∷ (1, statement.Begin begins.Immediate) ∷ (2, add 1) ∷ (1, statement.Rollback) ∷ (2, add 1) ∷ (2, statement.Rollback) ∷ [])
    ≡ ok ∷ ok ∷ Refused Busy ∷ ok ∷ ok ∷ Refused NoTransaction ∷ []
unfolding outcome
busy = refl

pub begun_twice : replies (fresh []) ((1, begin) ∷ (1, begin) ∷ (1, statement.Checkpoint checkpoint.Passive) ∷ (1, statement.Commit) ∷ (1, statement.Commit) ∷ [])
    ≡ ok ∷ Refused InTransaction ∷ Refused InTransaction ∷ ok ∷ Refused NoTransaction ∷ []
unfolding outcome
begun_twice = refl

pub savepoints : replies (fresh []) ((1, create) ∷ (1, statement.Savepoint a) ∷ (1, add 1) ∷ (1, statement.Savepoint a) ∷ (1, add 2) ∷ (1, statement.RollbackTo a) ∷ (1, statement.Release a) ∷ (1, statement.Release a) ∷ (2, read) ∷ (1, statement.Release a) ∷ [])
    ≡ ok ∷ ok ∷ ok ∷ ok ∷ ok ∷ ok ∷ ok ∷ ok ∷ Rows (i 1 ∷ []) ∷ Refused NoSavepoint ∷ []
unfolding outcome
savepoints = refl

pub keeps_write_right : replies (fresh []) ((1, create) ∷ (1, begin) ∷ (1, statement.Savepoint a) ∷ (1, add 1) ∷ (1, statement.RollbackTo a) ∷ (2, add 2) ∷ (1, statement.Commit) ∷ (2, add 2) ∷ (2, read) ∷ [])
    ≡ ok ∷ ok ∷ ok ∷ ok ∷ ok ∷ Refused Busy ∷ ok ∷ ok ∷ Rows (i 2 ∷ []) ∷ []
unfolding outcome
keeps_write_right = refl

-- CREATE TRIGGER g AFTER INSERT ON t WHEN NEW.a = 2 BEGIN SELECT RAISE(ROLLBACK, 'x'); END
abbrev undoing : Statement
undoing = creating (new.Trigger (record { name = codes "g"; time = After; event = Insert; target = t; condition = Some (Binary op.Equal (named_of (codes "NEW") a) (number 2)); body = program.Select (select (result (Raise Rollback (codes "x")) ∷ []) []) ∷ [] }))

pub undone : replies (fresh []) ((1, create) ∷ (1, undoing) ∷ (1, begin) ∷ (1, add 1) ∷ (1, add 2) ∷ (1, statement.Commit) ∷ (1, read) ∷ [])
    ≡ ok ∷ ok ∷ ok ∷ ok ∷ Refused (Raised (codes "x")) ∷ Refused NoTransaction ∷ ok ∷ []
unfolding outcome
undone = refl

-- SELECT RAISE(ROLLBACK, 'x')
pub raise_rollback_outside : replies (fresh []) ((1, statement.Select (select (result (Raise Rollback (codes "x")) ∷ []) [])) ∷ []) ≡ Refused Misuse ∷ []
unfolding outcome
raise_rollback_outside = refl

-- BEGIN; a statement that comes to RAISE(ROLLBACK): the reply is that of RAISE, and there is no transaction any more
pub rollback_is_answered : Allowed (with_connection (fresh []) 1 (InTransactionOf false [] NoSnapshot)) 1 (given (fresh []) (Meant (Err (RaisedRollback (codes "x"))) [])) (Refused (Raised (codes "x"))) (fresh [])
rollback_is_answered = (RaisedRollback (codes "x"), (0, omega arith, refl), refl, refl)

-- RAISE(ABORT) in the same place leaves the transaction
pub abort_is_answered : Allowed (with_connection (fresh []) 1 (InTransactionOf false [] NoSnapshot)) 1 (given (fresh []) (Meant (Err (Raised (codes "x"))) [])) (Refused (Raised (codes "x"))) (with_connection (fresh []) 1 (InTransactionOf false [] NoSnapshot))
abort_is_answered = (Raised (codes "x"), (0, omega arith, refl), refl, refl)

-- SAVEPOINT x; 2: insert 1; insert 2; ROLLBACK TO x gives up the second row alone, and keeps the write right until RELEASE x
pub rolled_back_to : replies (fresh []) ((1, create) ∷ (1, statement.Savepoint x) ∷ (2, add 1) ∷ (1, add 2) ∷ (1, statement.RollbackTo x) ∷ (1, read) ∷ (2, add 9) ∷ (1, statement.Release x) ∷ (2, add 9) ∷ [])
    ≡ ok ∷ ok ∷ ok ∷ ok ∷ ok ∷ Rows (i 1 ∷ []) ∷ Refused Busy ∷ ok ∷ ok ∷ []
unfolding outcome
rolled_back_to = refl

-- an old snapshot comes before a name that isn't there
pub stale_before_names : replies (fresh []) ((1, create) ∷ (1, begin) ∷ (1, read) ∷ (2, add 1) ∷ (1, into_nosuch) ∷ (1, statement.Commit) ∷ (1, into_nosuch) ∷ [])
    ≡ ok ∷ ok ∷ ok ∷ ok ∷ Refused StaleSnapshot ∷ ok ∷ Refused NoSuch ∷ []
unfolding outcome
stale_before_names = refl

-- a transaction has at most 64 savepoints
abbrev savepoint_replies : ℕ → List Reply
savepoint_replies n = replies (fresh []) (times n (1, statement.Savepoint x))

pub savepoints_64 : savepoint_replies 64 ≡ times 64 ok
unfolding outcome
savepoints_64 = refl

pub savepoints_65 : savepoint_replies 65 ≡ times 64 ok ++ Refused TooLong ∷ []
unfolding outcome
savepoints_65 = refl

-- ---- steps

abbrev one : Database
one = with_object [] t (table (col a ∷ []) [])

-- INSERT INTO t VALUES (1) => ok
pub inserted : Step (fresh one) 1 (add 1) (Rows []) (after_commit (fresh one) 1 (with_object one t (table (col a ∷ []) ((pos 1, i 1) ∷ []))))
unfolding outcome
inserted = inr (inr (refl, refl, inl (inr (no_faults_behind one (insert t (number 1 ∷ [])) refl refl, (refl, inl refl)))))

-- g AFTER DELETE ON t WHEN OLD.a = 99: DELETE FROM nosuch. DELETE FROM t, where t has no row
abbrev with_g : Database
with_g = with_object one (codes "g") (ATrigger (record { name = codes "g"; time = After; event = Delete; target = t; condition = Some (Binary op.Equal (named_of (codes "OLD") a) (number 99)); body = program.Change (delete (codes "nosuch") None) ∷ [] }))

-- the reply is that there is no such table, and nothing else but lack of memory, of room, or a failed disk
pub trigger_refused : (r : Reply) (m : Machine) → r ≡ Refused NoSuch → m ≡ fresh with_g → Step (fresh with_g) 1 (statement.Change (delete t None)) r m
unfolding outcome
trigger_refused r m h k = inr (inr (refl, refl, inl (inl (NoSuch, (1, (0, omega arith, refl)), h, k))))

-- and not that it has done so
pub trigger_not_served : (rows : List (List Value)) (m : Machine) → Step (fresh with_g) 1 (statement.Change (delete t None)) (Rows rows) m → ⊥
unfolding outcome
trigger_not_served rows m (inl h) = absurd (true≢false (sym h.0))
trigger_not_served rows m (inr (inl h)) = absurd (true≢false h.1)
trigger_not_served rows m (inr (inr h)) = served h.2
  where
    fault : IsFault with_g (delete t None) NoSuch
    fault = (1, (0, omega arith, refl))

    is_rows : Reply → Type 0
    is_rows (Rows rows) = Unit {0}
    is_rows (Refused r) = ⊥

    served : Allowed (fresh with_g) 1 (outcome (fresh with_g) 1 (statement.Change (delete t None))) (Rows rows) m ⊎ ⊥ → ⊥
    served (inl (inl x)) = subst is_rows x.2 tt
    served (inl (inr x)) = x.0 NoSuch fault
    served (inr x) = x
