-- Worked examples of statements that change rows.
use Rattle.std.specs.Prelude.{◌≡◌, refl, true, pos, Ok, Err, codes, None, Some, List, [], ◌∷◌, Option, ℤ}
use Rattle.sqlval.specs.Refusals.{Answer, ◌then◌, NoSuch, Misuse, Unique, RowChangedBefore, Raised, ViewReadOnly}
use Rattle.sqlval.specs.declared.affinity.Affinity.TheVariants as kind
use Rattle.sqlval.specs.declared.collation.Collation.TheVariants.{Binary}
use Rattle.sqlval.specs.declared.value.Value.{Value}
use Rattle.sqlval.specs.declared.value.Value.TheVariants.{Null, Text}
use Rattle.sql_syntax.specs.Tree as tree
use Rattle.sql_syntax.specs.Tree.{Tree, CallAll, Negated, Raise}
use Rattle.sql_syntax.specs.declared.change.Change.{Change}
use Rattle.sql_syntax.specs.declared.create.TriggerEvent.{TriggerEvent}
use Rattle.sql_syntax.specs.declared.create.TriggerEvent.TheVariants.{Insert, Delete, Update}
use Rattle.sql_syntax.specs.declared.create.TriggerStatement.{TriggerStatement}
use Rattle.sql_syntax.specs.declared.create.TriggerStatement.TheVariants as program
use Rattle.sql_syntax.specs.declared.create.TriggerTime.{TriggerTime}
use Rattle.sql_syntax.specs.declared.create.TriggerTime.TheVariants.{Before, After, InsteadOf}
use Rattle.sql_syntax.specs.declared.expr.Operator.TheVariants as op
use Rattle.sql_syntax.specs.declared.expr.RaiseAction.TheVariants.{Abort}
use Rattle.sql_syntax.specs.declared.query.JoinKind.TheVariants.{Inner}
use Rattle.sql_syntax.specs.declared.query.ResultItem.TheVariants.{All}
use Rattle.catalog.specs.Database.{Name, Database, TableColumn, AnIndex, AView, ATrigger, with_object}
use Rattle.query_names.specs.Views.{answer}
use Rattle.query_names.proofs.Written.{null, number, named, named_of, from, from_as, joined, select, result, rising, insert, insert_rows, insert_answer, update, set, delete, col, table, int}
use Rattle.trigger.specs.Effects.{change}

abbrev a : Name
a = codes "a"

abbrev b : Name
b = codes "b"

abbrev k : Name
k = codes "k"

abbrev t : Name
t = codes "t"

abbrev u : Name
u = codes "u"

abbrev v : Name
v = codes "v"

abbrev log : Name
log = codes "log"

-- ---- rows

abbrev unique_k : List (ℤ × List Value) → Database
unique_k rows = with_object (with_object [] t (table (col k ∷ []) rows)) (codes "sqlite_autoindex_t_1") (AnIndex (record { table = t; is_unique = true; is_automatic = true; columns = (0, Binary) ∷ [] }))

-- UPDATE t SET k = k + 1 over 1, 2
pub one_up : change (unique_k ((pos 1, int 1 ∷ []) ∷ (pos 2, int 2 ∷ []) ∷ [])) (update t (set k (tree.Binary op.Add (named k) (number 1)) ∷ [])) ≡ Err Unique
one_up = refl

-- UPDATE t SET k = k - 1
pub one_down : change (unique_k ((pos 1, int 1 ∷ []) ∷ (pos 2, int 2 ∷ []) ∷ [])) (update t (set k (tree.Binary op.Subtract (named k) (number 1)) ∷ [])) ≡ Ok (unique_k ((pos 1, int 0 ∷ []) ∷ (pos 2, int 1 ∷ []) ∷ []))
one_down = refl

-- INSERT INTO t VALUES (NULL), (NULL)
pub two_nulls : change (unique_k ((pos 1, int 1 ∷ []) ∷ [])) (insert_rows t ((null ∷ []) ∷ (null ∷ []) ∷ [])) ≡ Ok (unique_k ((pos 1, int 1 ∷ []) ∷ (pos 2, Null ∷ []) ∷ (pos 3, Null ∷ []) ∷ []))
two_nulls = refl

-- t(a INTEGER, b) of a foreign file holds ('12', 1): UPDATE t SET b = 2 converts the whole row
pub whole_row : change (with_object [] t (table (record (col a) { affinity = kind.Integer } ∷ col b ∷ []) ((pos 1, Text (codes "12") ∷ int 1 ∷ []) ∷ []))) (update t (set b (number 2) ∷ []))
    ≡ Ok (with_object [] t (table (record (col a) { affinity = kind.Integer } ∷ col b ∷ []) ((pos 1, int 12 ∷ int 2 ∷ []) ∷ [])))
whole_row = refl

-- ---- triggers

abbrev trigger : Name → TriggerTime → TriggerEvent → Name → Option Tree → List TriggerStatement → Database → Database
trigger n time event target when body db = with_object db n (ATrigger (record { name = n; time = time; event = event; target = target; condition = when; body = body }))

abbrev plain : List (ℤ × List Value) → Database
plain rows = with_object [] t (table (col a ∷ []) rows)

abbrev new_a : Tree
new_a = named_of (codes "NEW") a

-- BEFORE UPDATE ON t BEGIN DELETE FROM t WHERE rowid = OLD.rowid; END
abbrev deleting : Database → Database
deleting = trigger (codes "g") Before (Update None) t None (program.Change (delete t (Some (tree.Binary op.Equal (named (codes "rowid")) (named_of (codes "OLD") (codes "rowid"))))) ∷ [])

-- AFTER INSERT ON t BEGIN INSERT INTO t VALUES (NEW.a + 10); END
abbrev copying : Database → Database
copying = trigger (codes "h") After Insert t None (program.Change (insert t (tree.Binary op.Add new_a (number 10) ∷ [])) ∷ [])

pub removed_before : change (deleting (plain ((pos 1, int 1 ∷ []) ∷ []))) (update t (set a (number 2) ∷ [])) ≡ Err RowChangedBefore
removed_before = refl

pub copied_once : change (copying (deleting (plain ((pos 1, int 1 ∷ []) ∷ [])))) (insert t (number 5 ∷ [])) ≡ Ok (copying (deleting (plain ((pos 1, int 1 ∷ []) ∷ (pos 2, int 5 ∷ []) ∷ (pos 3, int 15 ∷ []) ∷ []))))
copied_once = refl

-- BEFORE INSERT WHEN NEW.a < 0: SELECT RAISE(ABORT, 'neg')
abbrev refusing : Database → Database
refusing = trigger (codes "g") Before Insert t (Some (tree.Binary op.Less new_a (number 0))) (program.Select (select (result (Raise Abort (codes "neg")) ∷ []) []) ∷ [])

pub raised : change (refusing (plain [])) (insert_rows t ((number 1 ∷ []) ∷ (Negated (number 1) ∷ []) ∷ [])) ≡ Err (Raised (codes "neg"))
raised = refl

-- UPDATE OF b isn't set off by SET a
pub not_of_that_column : change (trigger (codes "g") Before (Update (Some (b ∷ []))) t None (program.Select (select (result (Raise Abort (codes "x")) ∷ []) []) ∷ []) (plain ((pos 1, int 1 ∷ []) ∷ []))) (update t (set a (number 2) ∷ []))
    ≡ Ok (trigger (codes "g") Before (Update (Some (b ∷ []))) t None (program.Select (select (result (Raise Abort (codes "x")) ∷ []) []) ∷ []) (plain ((pos 1, int 2 ∷ []) ∷ [])))
not_of_that_column = refl

-- ---- views

-- CREATE VIEW v AS SELECT a FROM t
abbrev with_view : Database → Database
with_view db = with_object db v (AView (record { columns = []; query = select (result (named a) ∷ []) (from t ∷ []) }))

abbrev instead : Database → Database
instead = trigger (codes "w") InsteadOf Insert v None (program.Change (insert t (new_a ∷ [])) ∷ [])

pub read_only : change (with_view (plain [])) (insert v (number 3 ∷ [])) ≡ Err ViewReadOnly
read_only = refl

pub through_view : (change (instead (with_view (plain []))) (insert v (number 3 ∷ [])) then λ db. answer db (select (result (named a) ∷ []) (from v ∷ []))) ≡ Ok ((int 3 ∷ []) ∷ [])
unfolding answer
through_view = refl

-- ---- aggregates and RAISE

-- t(a) holds nothing, u(a) holds 7
abbrev two : Database
two = with_object (plain []) u (table (col a ∷ []) ((pos 1, int 7 ∷ []) ∷ []))

abbrev count : Tree
count = CallAll (codes "count")

-- INSERT INTO t VALUES (count(*)), UPDATE t SET a = count(*), and WHERE count(*)
pub count_in_values : change two (insert t (count ∷ [])) ≡ Err Misuse
count_in_values = refl

pub count_in_set : change two (update t (set a count ∷ [])) ≡ Err Misuse
count_in_set = refl

pub count_in_where : change two (delete t (Some count)) ≡ Err Misuse
count_in_where = refl

-- WHEN RAISE(ABORT, 'x') is in the program
pub raise_in_when : change (trigger (codes "g") After Insert t (Some (Raise Abort (codes "x"))) [] two) (insert t (number 1 ∷ [])) ≡ Err (Raised (codes "x"))
raise_in_when = refl

-- in a program: SELECT DISTINCT RAISE(ABORT, 'x') ORDER BY RAISE(ABORT, 'x')
pub raise_twice : change (trigger (codes "g") After Insert t None (program.Select (record (select (result (Raise Abort (codes "x")) ∷ []) []) { is_distinct = true; order = rising (Raise Abort (codes "x")) ∷ [] }) ∷ []) two) (insert t (number 1 ∷ [])) ≡ Err (Raised (codes "x"))
raise_twice = refl

-- ---- NEW and OLD

abbrev logged : List Name → Database
logged ns = with_object two log (table (columns ns) [])
  where
    columns : List Name → List TableColumn
    columns [] = []
    columns (n ∷ ns) = col n ∷ columns ns

abbrev log_of : Database → Change → Answer (List (List Value))
log_of db c = change db c then λ after. answer after (select (All ∷ []) (from log ∷ []))

-- INSERT INTO log SELECT NEW.a, count(*) FROM u, set off by INSERT INTO t VALUES (5)
pub new_beside_count : log_of (trigger (codes "g") After Insert t None (program.Change (insert_answer log (select (result new_a ∷ result count ∷ []) (from u ∷ []))) ∷ []) (logged (a ∷ b ∷ []))) (insert t (number 5 ∷ []))
    ≡ Ok ((int 5 ∷ int 1 ∷ []) ∷ [])
unfolding answer
new_beside_count = refl

-- the same over a table without rows
pub old_beside_count_of_none : log_of (trigger (codes "g") After Delete u None (program.Change (insert_answer log (select (result (named_of (codes "OLD") a) ∷ result count ∷ []) (from t ∷ []))) ∷ []) (logged (a ∷ b ∷ []))) (delete u None)
    ≡ Ok ((int 7 ∷ int 0 ∷ []) ∷ [])
unfolding answer
old_beside_count_of_none = refl

-- INSERT INTO log SELECT NEW.a FROM u AS New: the source's
pub source_hides_new : log_of (trigger (codes "g") After Insert t None (program.Change (insert_answer log (select (result new_a ∷ []) (from_as u (codes "New") ∷ []))) ∷ []) (logged (a ∷ []))) (insert t (number 5 ∷ []))
    ≡ Ok ((int 7 ∷ []) ∷ [])
unfolding answer
source_hides_new = refl

-- wholly: SELECT 1 FROM t JOIN u ON NEW.a = 1, u AS New has no NEW before the comma
pub source_hides_new_wholly : change (trigger (codes "g") After Insert t None (program.Select (select (result (number 1) ∷ []) (from t ∷ joined Inner u (tree.Binary op.Equal new_a (number 1)) ∷ from_as u (codes "New") ∷ [])) ∷ []) two) (insert t (number 5 ∷ [])) ≡ Err NoSuch
source_hides_new_wholly = refl
