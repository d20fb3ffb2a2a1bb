-- Worked examples of what is refused when names are looked up.
use Rattle.std.specs.Prelude.{◌≡◌, refl, true, false, pos, Ok, Err, codes, None, Some, List, [], ◌∷◌, length}
use Rattle.sqlval.specs.Conversion.{word}
use Rattle.sqlval.specs.Refusals.{NoSuch, Misuse, Ambiguous, Exists}
use Rattle.sqlval.specs.declared.collation.Collation.{Collation}
use Rattle.sqlval.specs.declared.value.Value.{Value}
use Rattle.sql_syntax.specs.Tree.{Tree, Call, CallAll, Paren, Binary, Collate, Raise, End, More}
use Rattle.sql_syntax.specs.declared.create.ColumnRule.TheVariants as column
use Rattle.sql_syntax.specs.declared.create.TableRule.TheVariants as rule
use Rattle.sql_syntax.specs.declared.create.TriggerDefinition.{TriggerDefinition}
use Rattle.sql_syntax.specs.declared.create.TriggerEvent.TheVariants.{Update}
use Rattle.sql_syntax.specs.declared.create.TriggerTime.{TriggerTime}
use Rattle.sql_syntax.specs.declared.create.TriggerTime.TheVariants.{After, InsteadOf}
use Rattle.sql_syntax.specs.declared.expr.Operator.TheVariants as op
use Rattle.sql_syntax.specs.declared.expr.RaiseAction.TheVariants.{Abort}
use Rattle.sql_syntax.specs.declared.query.JoinKind.TheVariants.{Inner}
use Rattle.sql_syntax.specs.declared.query.ResultItem.TheVariants.{All, AllOf}
use Rattle.catalog.specs.Database.{Name, Database, AView, with_object}
use Rattle.query_names.specs.Checked.{faults}
use Rattle.query_names.specs.Queries.{resolve_query}
use Rattle.query_names.specs.Schema.{create_index, create_table, create_trigger}
use Rattle.query_terms.specs.declared.tree.Aggregate.TheVariants.{CountAll}
use Rattle.query_terms.specs.Values.{aggregated}
use Rattle.query_names.specs.Views.{answer, look_up}
use Rattle.query_names.proofs.Written.{number, named, named_of, from, from_as, joined, select, result, rising, col, table, int, column_with, table_with}

abbrev a : Name
a = codes "a"

abbrev b : Name
b = codes "b"

abbrev t : Name
t = codes "t"

abbrev u : Name
u = codes "u"

abbrev v : Name
v = codes "v"

abbrev no : Name
no = codes "nosuch"

-- t(a) holds nothing, u(a) holds 7
abbrev two : Database
two = with_object (with_object [] t (table (col a ∷ []) [])) u (table (col a ∷ []) ((pos 1, int 7 ∷ []) ∷ []))

abbrev count : Tree
count = CallAll (codes "count")

-- ---- aggregates

-- SELECT 1 FROM t JOIN u ON count(*) = 0
pub count_in_on : answer two (select (result (number 1) ∷ []) (from t ∷ joined Inner u (Binary op.Equal count (number 0)) ∷ [])) ≡ Err Misuse
unfolding answer
count_in_on = refl

-- SELECT count(count(*))
pub count_in_count : answer two (select (result (Call (codes "count") (More count End)) ∷ []) []) ≡ Err Misuse
unfolding answer
count_in_count = refl

-- a count that has no 64 bits is refused
pub count_is_a_word : (c : Collation) (vs : List Value) → aggregated CountAll c vs ≡ word (pos (length vs))
count_is_a_word c vs = refl

-- SELECT 0 AND sum(a), where the sum passes 64 bits
pub sum_not_reached : answer (with_object [] t (table (col a ∷ []) ((pos 1, int 9223372036854775807 ∷ []) ∷ (pos 2, int 1 ∷ []) ∷ []))) (select (result (Binary op.And (number 0) (Call (codes "sum") (More (named a) End))) ∷ []) (from t ∷ [])) ≡ Ok ((int 0 ∷ []) ∷ [])
unfolding answer
sum_not_reached = refl

-- SELECT RAISE(ABORT, 'x')
pub raise_outside : answer two (select (result (Raise Abort (codes "x")) ∷ []) []) ≡ Err Misuse
unfolding answer
raise_outside = refl

-- ---- names

-- CREATE TRIGGER g AFTER UPDATE OF a, a ON t
pub update_of_twice : faults (create_trigger two (record { name = codes "g"; time = After; event = Update (Some (a ∷ a ∷ [])); target = t; condition = None; body = [] })) ≡ []
update_of_twice = refl

-- SELECT t.*
pub star_of_none : faults (resolve_query (look_up two) [] (select (AllOf t ∷ []) [])) ≡ Misuse ∷ NoSuch ∷ []
star_of_none = refl

-- CREATE VIEW v AS SELECT e FROM u
abbrev view_of : Tree → Database
view_of e = with_object two v (AView (record { columns = []; query = select (result e ∷ []) (from u ∷ []) }))

-- CREATE VIEW v AS SELECT (a) FROM u; SELECT a FROM v
pub no_name : answer (view_of (Paren (named a))) (select (result (named a) ∷ []) (from v ∷ [])) ≡ Err NoSuch
unfolding answer
no_name = refl

pub no_name_of_collate : answer (view_of (Collate (named a) (codes "binary"))) (select (result (named a) ∷ []) (from v ∷ [])) ≡ Err NoSuch
unfolding answer
no_name_of_collate = refl

pub plain_name : answer (view_of (named_of u a)) (select (result (named a) ∷ []) (from v ∷ [])) ≡ Ok ((int 7 ∷ []) ∷ [])
unfolding answer
plain_name = refl

-- CREATE TABLE s(a, a, UNIQUE(a), CHECK(a > 0)) is misuse and never ambiguous; beside it stands what else is refused
pub doubled_column : faults (create_table two (table_with (codes "s") (column_with a [] [] ∷ column_with a [] [] ∷ []) (rule.Unique (a ∷ []) ∷ rule.Check (Binary op.Greater (named a) (number 0)) ∷ []))) ≡ Misuse ∷ []
doubled_column = refl

pub doubled_and_taken : faults (create_table two (table_with t (column_with a [] [] ∷ column_with a [] [] ∷ []) (rule.Check (named no) ∷ []))) ≡ Misuse ∷ NoSuch ∷ Exists ∷ []
doubled_and_taken = refl

-- a COLLATE foo COLLATE binary
pub earlier_collation : faults (create_table two (table_with (codes "s") (column_with a [] (column.Collate (codes "foo") ∷ column.Collate (codes "binary") ∷ []) ∷ []) [])) ≡ NoSuch ∷ []
earlier_collation = refl

-- ---- every refusal is listed

-- SELECT nosuch, a FROM t WHERE count(*) = nosuch GROUP BY abs(a, a) ORDER BY 3
pub all_listed : faults (resolve_query (look_up two) [] (record (select (result (named no) ∷ result (named a) ∷ []) (from t ∷ [])) {
  condition = Some (Binary op.Equal count (named no));
  groups = Call (codes "abs") (More (named a) (More (named a) End)) ∷ [];
  order = rising (number 3) ∷ [];
}))
    ≡ Misuse ∷ NoSuch ∷ Misuse ∷ NoSuch ∷ Misuse ∷ Misuse ∷ []
all_listed = refl

-- SELECT a, *, abs() FROM nosuch ORDER BY 9: what hangs on the table isn't listed
pub missing_table : faults (resolve_query (look_up two) [] (record (select (result (named a) ∷ All ∷ result (Call (codes "abs") End) ∷ []) (from no ∷ [])) { order = rising (number 9) ∷ [] })) ≡ NoSuch ∷ Misuse ∷ []
missing_table = refl

-- a name that is in two known sources is ambiguous beside an unknown one, and a name that is in none isn't refused
pub beside_unknown : faults (resolve_query (look_up two) [] (select (result (named a) ∷ result (named b) ∷ []) (from t ∷ from u ∷ from no ∷ []))) ≡ NoSuch ∷ Ambiguous ∷ []
beside_unknown = refl

-- SELECT nosuch(*): there is no such function, and `*` stands in count alone
pub star_of_no_function : faults (resolve_query (look_up two) [] (select (result (CallAll no) ∷ []) [])) ≡ Misuse ∷ NoSuch ∷ []
star_of_no_function = refl

-- ---- rowid is no column of a definition

abbrev rowid : Name
rowid = codes "rowid"

-- CREATE INDEX i ON t(rowid)
pub index_on_rowid : faults (create_index two (record { is_unique = false; name = codes "i"; table = t; columns = record { name = rowid; collation = None } ∷ [] })) ≡ NoSuch ∷ []
index_on_rowid = refl

-- CREATE TABLE s(a, PRIMARY KEY(rowid))
pub key_on_rowid : faults (create_table two (table_with (codes "s") (column_with a [] [] ∷ []) (rule.PrimaryKey (rowid ∷ []) ∷ []))) ≡ NoSuch ∷ []
key_on_rowid = refl

-- SELECT rowid FROM v
pub rowid_of_view : faults (resolve_query (look_up (view_of (named a))) [] (select (result (named rowid) ∷ []) (from v ∷ []))) ≡ NoSuch ∷ []
rowid_of_view = refl

-- CREATE TRIGGER g AFTER UPDATE OF rowid ON t, and INSTEAD OF UPDATE OF rowid ON v, whose list isn't looked up
abbrev of_rowid : TriggerTime → Name → TriggerDefinition
of_rowid time n = record { name = codes "g"; time = time; event = Update (Some (rowid ∷ [])); target = n; condition = None; body = [] }

pub update_of_rowid : faults (create_trigger two (of_rowid After t)) ≡ NoSuch ∷ []
update_of_rowid = refl

pub update_of_rowid_of_view : faults (create_trigger (view_of (named a)) (of_rowid InsteadOf v)) ≡ []
update_of_rowid_of_view = refl

-- ---- NEW and OLD beside a source of their name

-- SELECT NEW.x FROM u AS new in the program of a view that is refused: u has no column x
pub hidden_new_is_known : faults (resolve_query (look_up two) (record { name = codes "new"; columns = []; has_rowid = false; needs_name = true; is_known = false } ∷ []) (select (result (named_of (codes "NEW") (codes "x")) ∷ []) (from_as u (codes "new") ∷ []))) ≡ NoSuch ∷ []
hidden_new_is_known = refl
