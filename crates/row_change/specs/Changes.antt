-- INSERT, UPDATE and DELETE whose names are looked up (SQL As Understood By SQLite, "INSERT", "UPDATE", "DELETE").
use Rattle.std.specs.Prelude.{ℕ, suc, Bool, false, not, ◌&&◌, List, [], ◌∷◌, ◌++◌, map, length, Option, Some, None, if◌then◌else◌, ◌==◌, zip}
use Rattle.std.specs.List.{list_any}
use Rattle.sqlval.specs.Names.{folded}
use Rattle.sqlval.specs.Refusals.{Misuse}
use Rattle.sql_syntax.specs.declared.change.Assignment.{Assignment}
use Rattle.sql_syntax.specs.declared.change.Change.{Change}
use Rattle.sql_syntax.specs.declared.change.Change.TheVariants.{Insert, Update, Delete}
use Rattle.sql_syntax.specs.declared.change.InsertSource.{InsertSource}
use Rattle.sql_syntax.specs.declared.change.InsertSource.TheVariants as source
use Rattle.catalog.specs.Database.{Name, Database}
use Rattle.query_names.specs.Expressions.{resolve}
use Rattle.query_names.specs.Checked.{Checked, good, noted, both, known_map, known_all, ◌and_then◌, unless}
use Rattle.query_names.specs.Queries.{resolve_query, resolve_filter}
use Rattle.query_names.specs.declared.reading.Reading.{Reading}
use Rattle.query_names.specs.Scopes.{source_of, beside, resolve_places}
use Rattle.query_names.specs.declared.scope.ScopeColumn.{ScopeColumn}
use Rattle.query_names.specs.declared.scope.ScopeSource.{ScopeSource}
use Rattle.query_terms.specs.Terms.{Term}
use Rattle.query_terms.specs.Values.{Row}
use Rattle.query_names.specs.Views.{look_up}

-- what a statement in a trigger's program sees: NEW and OLD by name, and their rows
pub record Outer : Type 0 where
  pub scope : List ScopeSource
  pub rows : List Row

-- what a statement of a connection sees
abbrev pub no_outer : Outer
no_outer = record { scope = []; rows = [] }

-- ---- a change whose names are known

-- the rows that INSERT gives
pub data Given : Type 0 where
  GivenRows : List (List Term) → Given
  GivenQuery : Reading → Given

-- a change by places
pub data Resolved : Type 0 where
  -- into a table or view, with each value's column by its place
  Inserts : Name → List ℕ → Given → Resolved
  -- the columns that SET names, by place with their values and by name; and WHERE
  Updates : Name → List (ℕ × Term) → List Name → Option Term → Resolved
  Deletes : Name → Option Term → Resolved

abbrev all_places : ℕ → List ScopeColumn → List ℕ
all_places i [] = []
all_places i (c ∷ cs) = i ∷ all_places (suc i) cs

abbrev pub insert_places : ScopeSource → Option (List Name) → Checked (List ℕ)
insert_places s None = good (all_places 0 s.columns)
insert_places s (Some ns) = resolve_places s ns

-- how many values are wanted, where that is known
abbrev pub wanted : ScopeSource → Option (List Name) → Option ℕ
wanted s None = if s.is_known then Some (length s.columns) else None
wanted s (Some ns) = Some (length ns)

abbrev differs : Option ℕ → ℕ → Bool
differs None n = false
differs (Some m) n = not (m == n)

-- the rows that INSERT gives, by their names, where each has so many values
abbrev pub resolve_given : Database → Outer → Option ℕ → InsertSource → Checked Given
resolve_given db outer n (source.Rows rows) =
    unless (list_any (λ r. differs n (length r)) rows) Misuse
    (known_map GivenRows (known_all (map (λ r. known_all (map (resolve false outer.scope) r)) rows)))
resolve_given db outer n (source.Query q) =
    resolve_query (look_up db) outer.scope q and_then λ r. unless (not r.is_open && differs n (length r.results)) Misuse (good (GivenQuery r))

abbrev pub resolve_sets : List ScopeSource → ScopeSource → List Assignment → Checked (List (ℕ × Term))
resolve_sets scope s sets = both zip (resolve_places s (map (λ x. x.column) sets)) (known_all (map (λ x. resolve false scope x.value) sets))

-- the table or view that a change is for, as a source
abbrev pub target : Database → Name → Checked ScopeSource
target db n = noted (look_up db n) and_then λ found. good (source_of (folded n) found)

-- what UPDATE and DELETE see of a row
abbrev row_scope : Outer → ScopeSource → List ScopeSource
row_scope outer s = beside outer.scope (s.name ∷ []) ++ s ∷ []

-- a change by its places, with what it sees of a trigger around it
abbrev pub resolve_change : Database → Outer → Change → Checked Resolved
resolve_change db outer (Insert i) =
    target db i.table and_then λ s. both (Inserts (folded i.table)) (insert_places s i.columns) (resolve_given db outer (wanted s i.columns) i.source)
resolve_change db outer (Update u) =
    target db u.table and_then λ s.
    both (λ sets where'. Updates (folded u.table) sets (map (λ x. folded x.column) u.assignments) where')
    (resolve_sets (row_scope outer s) s u.assignments) (resolve_filter (row_scope outer s) u.condition)
resolve_change db outer (Delete d) =
    target db d.table and_then λ s. known_map (Deletes (folded d.table)) (resolve_filter (row_scope outer s) d.condition)
