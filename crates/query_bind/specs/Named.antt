-- The parts of a query, looked up among listed tables and views (SQL As Understood By SQLite, "SELECT").
use Rattle.std.specs.Prelude.{◌≡◌, ℕ, zero, suc, Bool, true, false, not, ◌||◌, List, [], ◌∷◌, ◌++◌, map, flat_map, length, Option, Some, None, is_some, nat_lt, option_map}
use Rattle.std.specs.List.{AllByRecursion, list_any}
use Rattle.std.specs.Option.{option_or}
use Rattle.sqlval.specs.Names.{folded}
use Rattle.sqlval.specs.Refusals.{TooLong}
use Rattle.sql_syntax.specs.Tree.{Tree}
use Rattle.sql_syntax.specs.declared.query.FromClause.{FromClause}
use Rattle.sql_syntax.specs.declared.query.Join.{Join}
use Rattle.sql_syntax.specs.declared.query.JoinKind.{JoinKind}
use Rattle.sql_syntax.specs.declared.query.JoinKind.TheVariants as join
use Rattle.sql_syntax.specs.declared.query.OrderTerm.{OrderTerm}
use Rattle.sql_syntax.specs.declared.query.Query.{Query}
use Rattle.sql_syntax.specs.declared.query.ResultItem.{ResultItem}
use Rattle.sql_syntax.specs.declared.query.Source.{Source}
use Rattle.catalog.specs.Database.{Name}
use Rattle.catalog.specs.Listed.{Listed, as_view, shape_of, table_named, view_named}
use Rattle.catalog.specs.declared.tables.Table.{Table}
use Rattle.catalog.specs.declared.tables.View.{View}
use Rattle.query_names.specs.Bound.{EachOf}
use Rattle.query_names.specs.Checked.{Checked, Meant, bad, good, meant, faults, noted, known_map, known_all, ◌and_then◌}
use Rattle.query_names.specs.Expressions.{resolve}
use Rattle.query_names.specs.Grouping.{has_total}
use Rattle.query_names.specs.Known.{columns_in}
use Rattle.query_names.specs.Queries.{Lookup, as_reading, is_open_item, plain_name, resolve_filter, resolve_items, resolve_join, resolve_order, resolve_query, source_name}
use Rattle.query_names.specs.Scopes.{beside, source_of}
use Rattle.query_names.specs.Views.{unless_around, view_columns}
use Rattle.query_names.specs.declared.queries.BoundSource.{BoundSource}
use Rattle.query_names.specs.declared.queries.Origin.{Origin}
use Rattle.query_names.specs.declared.queries.Origin.TheVariants as origin
use Rattle.query_names.specs.declared.reading.Condition.{Condition}
use Rattle.query_names.specs.declared.reading.Reading.{Reading}
use Rattle.query_names.specs.declared.scope.ScopeColumn.{ScopeColumn}
use Rattle.query_names.specs.declared.scope.ScopeSource.{ScopeSource}
use Rattle.query_terms.specs.Terms.{Term, same_term}
use Rattle.query_bind.specs.declared.querying.Parts.{Parts}

-- ---- sources

-- each source is known
abbrev pub AreTables : List ScopeSource → Type 0
AreTables scope = list_any (λ s. not s.is_known) scope ≡ false

-- each source is known, and is reached by its name alone, as NEW and OLD are
abbrev pub AreOuter : List ScopeSource → Type 0
AreOuter scope = AllByRecursion (λ s. (s.is_known ≡ true) × (s.needs_name ≡ true)) scope

-- one source after others, whose columns are these: all that are seen then, and the source with its condition
abbrev pub source_joined : List ScopeSource → JoinKind → Source → Option Tree → Checked (List ScopeColumn × Bool)
    → Checked (List ScopeSource × (Name × Condition))
source_joined before kind s on found =
    let here : List ScopeSource = before ++ source_of (source_name s) found ∷ [] in
    known_map (λ c. (here, (folded s.name, c))) (resolve_join here kind on)

-- the same of a source that is looked up
abbrev pub resolve_source : Lookup → List ScopeSource → JoinKind → Source → Option Tree
    → Checked (List ScopeSource × (Name × Condition))
resolve_source look before kind s on = noted (look s.name) and_then source_joined before kind s on

-- the same, with the source after those that were joined before
abbrev pub onto_source : List (Name × Condition) → Checked (List ScopeSource × (Name × Condition))
    → Checked (List ScopeSource × List (Name × Condition))
onto_source joined k = known_map (λ s. (s.0, joined ++ s.1 ∷ [])) k

-- further sources after those that were joined before
abbrev pub onto_sources : List (Name × Condition) → Checked (List ScopeSource × List (Name × Condition))
    → Checked (List ScopeSource × List (Name × Condition))
onto_sources joined k = known_map (λ s. (s.0, joined ++ s.1)) k

-- the sources of FROM in the order of their text, the first as though after a comma
abbrev pub sources_from : Option FromClause → List Join
sources_from None = []
sources_from (Some f) = record { kind = join.Comma; source = f.first; condition = None } ∷ f.joins

-- NEW and OLD, as far as they are reached beside the sources of FROM
abbrev pub outer_shown : List ScopeSource → Option FromClause → List ScopeSource
outer_shown outer from = beside outer (map (λ j. source_name j.source) (sources_from from))

-- where a table's tree begins, and how its rows lie in records
abbrev pub place_seen : Table → BoundSource
place_seen t = record { root = t.root; shape = shape_of t }

-- the rows of that name come from the place of the listed table of the name; or no table has it, and they are a listed view's
abbrev pub IsOriginOf : Listed → Name → Origin → Type 0
IsOriginOf l name (origin.Tree place) = option_map place_seen (table_named name l.tables) ≡ Some place
IsOriginOf l name origin.View = (table_named name l.tables ≡ None) × (is_some (view_named name l.views) ≡ true)

-- the source's rows come from there
abbrev pub IsPlaced : Listed → Name × Condition → Origin → Type 0
IsPlaced l source place = IsOriginOf l source.0 place

-- each source, in order, is a listed table, at its own place, or a listed view
abbrev pub ArePlaced : Listed → List (Name × Condition) → List Origin → Type 0
ArePlaced l sources origins = EachOf (IsPlaced l) sources origins

-- ---- views

-- a column under this name, folded, or under its own where there is none
abbrev pub column_renamed : Option Name → ScopeColumn → ScopeColumn
column_renamed None c = c
column_renamed (Some name) c = record c { name = Some (folded name) }

-- the columns of a listed view, with room for so many views one within another; around are the views that it stands in
abbrev pub view_in : ℕ → Listed → List Name → Name → View → Checked (List ScopeColumn × Bool)
view_in zero l around name v = unless_around around name (bad ([], false) TooLong)
view_in (suc n) l around name v =
    unless_around around name (view_columns (as_view v) (resolve_query (columns_in n l (folded name ∷ around)) [] v.definition.query))

-- ---- results

-- the name after AS, or a plain column's
abbrev pub name_given : Tree → Option Name → Option Name
name_given e as_name = option_or (option_map folded as_name) (plain_name e)

-- the term is none of the results
abbrev pub is_no_result : List (Term × ScopeColumn) → Term → Bool
is_no_result results t = not (list_any (λ r. same_term r.0 t) results)

-- ---- ORDER BY

-- a term of ORDER BY, and whether it falls
abbrev pub order_given : List ScopeSource → List ResultItem → List (Term × ScopeColumn) → OrderTerm → Checked Term × Bool
order_given scope items results o = (resolve_order scope items results o.expression, o.is_descending)

-- the terms of ORDER BY together, with the refusals of each
abbrev pub orders_checked : List (Checked Term × Bool) → Checked (List (Term × Bool))
orders_checked orders = Meant (map (λ o. (meant o.0, o.1)) orders) (flat_map (λ o. faults o.0) orders)

-- ---- readings

-- the results are of groups of rows
abbrev pub is_grouped_by : Parts → Bool
is_grouped_by p = list_any (λ r. has_total r.0) p.results.items || list_any (λ o. has_total o.0) p.orders.items || nat_lt 0 (length p.keys.items)

-- the reading of a query of these parts, none of which is refused by itself; so many sources of a trigger stand before its own
abbrev pub reading_for : ℕ → Query → Parts → Checked Reading
reading_for outer q p =
    as_reading outer q false p.joined.items p.filter p.keys.items p.results.items (map (λ o. (good o.0, o.1)) p.orders.items)

-- a query whose sources are looked up, so many of them a trigger's
abbrev pub resolve_clauses : ℕ → List ScopeSource → List (Name × Condition) → Query → Checked Reading
resolve_clauses outer scope joined q =
    resolve_filter scope q.condition and_then λ filter.
    known_all (map (resolve false scope) q.groups) and_then λ keys.
    resolve_items scope q.results and_then λ results.
    as_reading outer q (list_any (is_open_item scope) q.results) joined filter keys results (map (order_given scope q.results results) q.order)
