-- Worked examples of changes: places by name, defaults, rowids, constraints, and rows that BEFORE triggers change.
use Rattle.std.specs.Prelude.{◌≡◌, refl, ℕ, negsuc, Ok, Err, codes, None, Some, List, [], ◌∷◌}
use Rattle.sqlval.specs.Refusals.{Answer, ◌then◌, Ambiguous, NoSuch, NotNull, TypeRefused, ViewReadOnly}
use Rattle.sqlval.specs.declared.value.Value.{Value}
use Rattle.sqlval.specs.declared.value.Value.TheVariants.{Int}
use Rattle.sql_syntax.specs.Tree as tree
use Rattle.sql_syntax.specs.Tree.{Tree}
use Rattle.sql_syntax.specs.declared.change.Change.{Change}
use Rattle.sql_syntax.specs.declared.change.Change.TheVariants as change
use Rattle.sql_syntax.specs.declared.change.InsertSource.TheVariants as source
use Rattle.sql_syntax.specs.declared.create.ColumnRule.TheVariants as column
use Rattle.sql_syntax.specs.declared.create.TableDefinition.{TableDefinition}
use Rattle.sql_syntax.specs.declared.create.TriggerEvent.{TriggerEvent}
use Rattle.sql_syntax.specs.declared.create.TriggerEvent.TheVariants.{Insert, Delete, Update}
use Rattle.sql_syntax.specs.declared.create.TriggerStatement.{TriggerStatement}
use Rattle.sql_syntax.specs.declared.create.TriggerStatement.TheVariants as program
use Rattle.sql_syntax.specs.declared.create.TriggerTime.{TriggerTime}
use Rattle.sql_syntax.specs.declared.create.TriggerTime.TheVariants.{Before, After, InsteadOf}
use Rattle.sql_syntax.specs.declared.expr.Operator.TheVariants as op
use Rattle.sql_syntax.specs.declared.query.ResultItem.TheVariants.{All, Of}
use Rattle.catalog.specs.Database.{Name, Database, AView, ATrigger, with_object}
use Rattle.query_names.specs.Checked.{meant}
use Rattle.query_names.specs.Schema.{create_table}
use Rattle.query_names.specs.Views.{answer}
use Rattle.query_names.proofs.Written.{null, number, named, named_of, from, select, insert, update, set, delete, column_with, table_with, col, table, numbered, int}
use Rattle.trigger.specs.Effects.{change}

abbrev a : Name
a = codes "a"

abbrev b : Name
b = codes "b"

abbrev t : Name
t = codes "t"

abbrev v : Name
v = codes "v"

abbrev x : Name
x = codes "x"

abbrev rowid : Name
rowid = codes "rowid"

abbrev plain : List (List Value) → Database
plain rows = with_object [] t (table (col a ∷ []) (numbered 1 rows))

abbrev made : TableDefinition → Database
made d = meant (create_table [] d)

-- what is in t after a change, or its refusal
abbrev left : Database → Change → Answer (List (List Value))
left db c = change db c then λ after. answer after (select (All ∷ []) (from t ∷ []))

-- the same after two changes
abbrev left_by_two : Database → Change → Change → Answer (List (List Value))
left_by_two db c d = change db c then λ after. left after d

abbrev trigger : Name → TriggerTime → TriggerEvent → Name → List TriggerStatement → Database → Database
trigger n time event target body db = with_object db n (ATrigger (record { name = n; time = time; event = event; target = target; condition = None; body = body }))

-- ---- places by name

-- CREATE VIEW v AS SELECT a AS x, a AS x FROM t
abbrev doubled : Database
doubled = with_object (plain ((int 1 ∷ []) ∷ [])) v (AView (record { columns = []; query = select (Of (named a) (Some x) ∷ Of (named a) (Some x) ∷ []) (from t ∷ []) }))

-- UPDATE v SET x = 1, and DELETE FROM v
pub set_doubled : change doubled (update v (set x (number 1) ∷ [])) ≡ Err Ambiguous
set_doubled = refl

pub delete_doubled : change doubled (delete v None) ≡ Err ViewReadOnly
delete_doubled = refl

-- UPDATE t SET rowid = 1
pub set_rowid : change (plain []) (update t (set rowid (number 1) ∷ [])) ≡ Err NoSuch
set_rowid = refl

-- CREATE VIEW v AS SELECT a FROM t, with INSTEAD OF UPDATE OF rowid: UPDATE v SET a = 1 doesn't set it off
abbrev of_rowid : Database
of_rowid = trigger (codes "g") InsteadOf (Update (Some (rowid ∷ []))) v [] (with_object (plain []) v (AView (record { columns = []; query = select (Of (named a) None ∷ []) (from t ∷ []) })))

pub not_set_off : change of_rowid (update v (set a (number 1) ∷ [])) ≡ Err ViewReadOnly
not_set_off = refl

-- ---- defaults and rowids

-- CREATE TABLE t(id INTEGER PRIMARY KEY DEFAULT 5, a)
abbrev keyed : Database
keyed = made (table_with t (column_with (codes "id") (codes "INTEGER" ∷ []) (column.PrimaryKey ∷ column.Default (int 5) ∷ []) ∷ column_with a [] [] ∷ []) [])

-- INSERT INTO t(a) VALUES (1); INSERT INTO t VALUES (NULL, 2)
abbrev insert_a : Change
insert_a = change.Insert (record { table = t; columns = Some (a ∷ []); source = source.Rows ((number 1 ∷ []) ∷ []) })

pub default_of_rowid : left_by_two keyed insert_a (insert t (null ∷ number 2 ∷ [])) ≡ Ok ((int 5 ∷ int 1 ∷ []) ∷ (int 6 ∷ int 2 ∷ []) ∷ [])
unfolding answer
default_of_rowid = refl

-- INSERT INTO t VALUES (-3, 1); INSERT INTO t VALUES (NULL, 2)
pub rowid_after_negative : left_by_two keyed (insert t (tree.Negated (number 3) ∷ number 1 ∷ [])) (insert t (null ∷ number 2 ∷ []))
    ≡ Ok ((Int (negsuc 2) ∷ int 1 ∷ []) ∷ (Int (negsuc 1) ∷ int 2 ∷ []) ∷ [])
unfolding answer
rowid_after_negative = refl

-- CREATE TABLE t(a, b DEFAULT 7): INSERT INTO t(a) VALUES (1)
pub default_value : left (made (table_with t (column_with a [] [] ∷ column_with b [] (column.Default (int 7) ∷ []) ∷ []) [])) insert_a ≡ Ok ((int 1 ∷ int 7 ∷ []) ∷ [])
unfolding answer
default_value = refl

-- ---- constraints

-- CREATE TABLE t(a NOT NULL CHECK (a / 0 IS NULL), b CHECK (b || X'00'))
abbrev demanding : Database
demanding = made (table_with t (
    column_with a [] (column.NotNull ∷ column.Check (tree.Binary op.Is (tree.Binary op.Divide (named a) (number 0)) null) ∷ [])
    ∷ column_with b [] (column.Check (tree.Binary op.Concatenate (named b) (tree.Blob (0 ∷ []))) ∷ [])
    ∷ []
    ) [])

pub null_comes_first : change demanding (insert t (null ∷ number 1 ∷ [])) ≡ Err NotNull
null_comes_first = refl

pub check_of_blob : change demanding (insert t (number 1 ∷ number 1 ∷ [])) ≡ Err TypeRefused
check_of_blob = refl

pub check_of_null : change demanding (insert t (number 1 ∷ null ∷ [])) ≡ Err TypeRefused
check_of_null = refl

-- ---- rows that BEFORE triggers change

abbrev set_a : ℕ → TriggerStatement
set_a n = program.Change (update t (set a (number n) ∷ []))

-- BEFORE UPDATE ON t BEGIN UPDATE t SET a = 7; UPDATE t SET a = 1; END. t holds 1: UPDATE t SET a = 2
pub put_back : left (trigger (codes "g") Before (Update None) t (set_a 7 ∷ set_a 1 ∷ []) (plain ((int 1 ∷ []) ∷ []))) (update t (set a (number 2) ∷ [])) ≡ Ok ((int 2 ∷ []) ∷ [])
unfolding answer
put_back = refl

abbrev is_a : Tree → Tree
is_a = tree.Binary op.Equal (named a)

-- BEFORE DELETE ON t BEGIN DELETE FROM t WHERE OLD.a = 1 AND a = 2; END. t holds 1, 2, 3: DELETE FROM t WHERE a < 3
pub gone_before : left (trigger (codes "g") Before Delete t (program.Change (delete t (Some (tree.Binary op.And (tree.Binary op.Equal (named_of (codes "OLD") a) (number 1)) (is_a (number 2))))) ∷ []) (plain ((int 1 ∷ []) ∷ (int 2 ∷ []) ∷ (int 3 ∷ []) ∷ [])))
    (delete t (Some (tree.Binary op.Less (named a) (number 3)))) ≡ Ok ((int 3 ∷ []) ∷ [])
unfolding answer
gone_before = refl

-- ---- two triggers on one event run by name

-- AFTER INSERT ON t: h sets each a to 1, g to 2
pub by_name : left (trigger (codes "h") After Insert t (set_a 1 ∷ []) (trigger (codes "g") After Insert t (set_a 2 ∷ []) (plain []))) (insert t (number 5 ∷ [])) ≡ Ok ((int 1 ∷ []) ∷ [])
unfolding answer
by_name = refl
