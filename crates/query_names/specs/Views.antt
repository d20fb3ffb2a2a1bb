-- The rows of a table, of a view and of a query on a database: a view stands for the rows of its query (SQL As Understood By SQLite, "CREATE VIEW").
use Rattle.std.specs.Prelude.{ℕ, zero, suc, Bool, true, false, not, ◌&&◌, List, [], ◌∷◌, map, length, Option, Some, Ok, Err, if◌then◌else◌, nat_lt, ◌==◌}
use Rattle.std.specs.List.{list_any}
use Rattle.sqlval.specs.Names.{folded, is_same_name}
use Rattle.sqlval.specs.Refusals.{Answer, ◌then◌, NoSuch, Misuse, TooLong}
use Rattle.sqlval.specs.declared.value.Value.{Value}
use Rattle.sqlval.specs.declared.value.Value.TheVariants.{Null, Int}
use Rattle.sql_syntax.specs.declared.query.Query.{Query}
use Rattle.catalog.specs.Database.{Name, Database, object, Object, ATable, AView, Table, View}
use Rattle.query_names.specs.Checked.{Checked, good, bad, unless, ◌and_then◌, known_then}
use Rattle.query_names.specs.Queries.{Lookup, resolve_query}
use Rattle.query_names.specs.Readings.{rows_over}
use Rattle.query_names.specs.declared.reading.Reading.{Reading}
use Rattle.query_names.specs.declared.reading.Condition.{Condition}
use Rattle.query_names.specs.Scopes.{table_scope}
use Rattle.query_names.specs.declared.scope.ScopeColumn.{ScopeColumn}
use Rattle.query_terms.specs.Values.{Row}

-- a view's list of names, or its query's
abbrev pub renamed : List Name → List ScopeColumn → List ScopeColumn
renamed [] cs = cs
renamed (n ∷ ns) [] = []
renamed (n ∷ ns) (c ∷ cs) = record c { name = Some n } ∷ renamed ns cs

-- the columns of a table, or of a view as it is looked at
abbrev pub columns_of_object : (View → Checked (List ScopeColumn × Bool)) → Option Object → Checked (List ScopeColumn × Bool)
columns_of_object view (Some (ATable t)) = good (table_scope t, true)
columns_of_object view (Some (AView v)) = view v
columns_of_object view _ = bad ([], false) NoSuch

-- a view that stands in itself is refused before one that stands too deep
abbrev pub unless_around : List Name → Name → Checked (List ScopeColumn × Bool) → Checked (List ScopeColumn × Bool)
unless_around around name k = if list_any (is_same_name name) around then bad ([], false) Misuse else k

-- the columns of a view's query under the names of the view's list, which are as many where the query's number is known
abbrev pub view_columns : View → Checked Reading → Checked (List ScopeColumn × Bool)
view_columns v k =
    k and_then λ q.
    unless (nat_lt 0 (length v.columns) && not q.is_open && not (length v.columns == length q.columns)) Misuse (good (renamed v.columns q.columns, false))

-- the columns of a table or a view, with room for so many views one within another; around are the views that this one stands in
abbrev pub columns_of : ℕ → Database → List Name → Name → Checked (List ScopeColumn × Bool)
columns_of zero db around name = columns_of_object (λ v. unless_around around name (bad ([], false) TooLong)) (object db name)
columns_of (suc n) db around name =
    columns_of_object (λ v. unless_around around name (view_columns v (resolve_query (columns_of n db (folded name ∷ around)) [] v.query))) (object db name)

-- 64 views stand one within another
abbrev pub look_up : Database → Lookup
look_up db = columns_of 64 db []

abbrev pub table_rows : Table → List Row
table_rows t = map (λ r. record { rowid = Int r.0; values = r.1 }) t.rows

abbrev pub plain_rows : List (List Value) → List Row
plain_rows = map (λ vs. record { rowid = Null; values = vs })

abbrev pub rows_of_object : (View → Answer (List Row)) → Option Object → Answer (List Row)
rows_of_object view (Some (ATable t)) = Ok (table_rows t)
rows_of_object view (Some (AView v)) = view v
rows_of_object view _ = Err NoSuch

-- each source's rows, in FROM order
abbrev pub loaded : (Name → Answer (List Row)) → List (Name × Condition) → Answer (List (Condition × List Row))
loaded rows [] = Ok []
loaded rows (s ∷ ss) = rows s.0 then λ r. loaded rows ss then λ rest. Ok ((s.1, r) ∷ rest)

-- the rows of a table or of a view, with room for so many views one within another
abbrev pub rows_of : ℕ → Database → Name → Answer (List Row)
rows_of zero db name = rows_of_object (λ v. Err TooLong) (object db name)
rows_of (suc n) db name =
    rows_of_object (λ v.
    known_then (resolve_query (look_up db) [] v.query) λ q.
    loaded (rows_of n db) q.sources then λ sources.
    rows_over q [] sources then λ rows. Ok (plain_rows rows))
    (object db name)

-- all rows of a table or of a view
abbrev pub all_rows : Database → Name → Answer (List Row)
all_rows = rows_of 64

-- the rows of a query; those of a trigger's NEW and OLD stand before its sources
abbrev pub answer_of : Database → List Row → Reading → Answer (List (List Value))
answer_of db outer q = loaded (all_rows db) q.sources then rows_over q outer

-- the rows that a query answers on a database, or a refusal
unfoldable pub answer : Database → Query → Answer (List (List Value))
answer db q = known_then (resolve_query (look_up db) [] q) (answer_of db [])
