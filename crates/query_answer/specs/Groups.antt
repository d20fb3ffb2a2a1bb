-- Rows that stand in groups.
use Rattle.std.specs.Prelude.{Bool, List, [], map, Ok}
use Rattle.std.specs.Ordering.{is_eq}
use Rattle.sqlval.specs.Lists.{groups, sorted}
use Rattle.sqlval.specs.Refusals.{Answer, ◌then◌, all_answers}
use Rattle.sqlval.specs.declared.value.Value.{Value}
use Rattle.query_terms.specs.Rows.{picked_rows}
use Rattle.query_terms.specs.Terms.{Term}
use Rattle.query_terms.specs.Values.{Row}
use Rattle.query_names.specs.Readings.{Sortable, group_env, grouped, sortable, values}
use Rattle.query_names.specs.declared.reading.Reading.{Reading}
use Rattle.query_answer.specs.Sorting.{by_values}
use Rattle.query_answer.specs.declared.results.FoundRow.{FoundRow}
use Rattle.query_answer.specs.declared.sorting.SortOrder.{SortOrder}

-- a combination of rows, with its keys before it
abbrev pub Keyed : Type 0
Keyed = List Value × List Row

abbrev pub keyed_of : List (List Row) → FoundRow → Keyed
keyed_of sources f = (f.keys, picked_rows sources f.picked)

abbrev pub have_same_keys : List SortOrder → FoundRow → FoundRow → Bool
have_same_keys orders r s = is_eq (by_values orders r.keys s.keys)

abbrev pub sorted_by_keys : List SortOrder → List FoundRow → List FoundRow
sorted_by_keys orders = sorted (λ r s. by_values orders r.keys s.keys)

-- what a query gives of a group, beside these rows of NEW and OLD
abbrev pub of_group : Reading → List Row → List (List Row) → List FoundRow → Answer Sortable
of_group q outer sources group = sortable q (group_env outer (map (keyed_of sources) group))

-- of each group of neighbours with the same keys
abbrev pub of_runs : Reading → List Row → List (List Row) → List SortOrder → List FoundRow → Answer (List Sortable)
of_runs q outer sources orders rows = all_answers (map (of_group q outer sources) (groups (have_same_keys orders) rows))

-- of each group, in the order of the keys
abbrev pub of_groups : Reading → List Row → List Keyed → Answer (List Sortable)
of_groups q outer rows = all_answers (map (λ group. sortable q (group_env outer group)) (grouped q.keys rows))

-- what expressions give of a group, as a row that is sorted by nothing
abbrev pub row_of_group : List Term → List Keyed → Answer Sortable
row_of_group ts group = values (group_env [] group) ts then λ vs. Ok (vs, [])
