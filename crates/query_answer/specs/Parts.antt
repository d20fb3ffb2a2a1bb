-- A query whose only source's rows come part after part.
use Rattle.std.specs.Prelude.{◌≡◌, Bool, true, false, not, ◌&&◌, ◌||◌, if◌then◌else◌, List, [], ◌∷◌, ◌++◌, length, map, None, ◌==◌, Ok, Err}
use Rattle.std.specs.List.{AllByRecursion, list_all}
use Rattle.sqlval.specs.Flow.{Flow, Finished, flow_of, for_each}
use Rattle.sqlval.specs.Refusals.{Answer, Refusal, ◌then◌}
use Rattle.sqlval.specs.declared.value.Value.{Value}
use Rattle.query_terms.specs.Values.{Row}
use Rattle.query_names.specs.Readings.{Sortable, rows_over}
use Rattle.query_names.specs.Views.{plain_rows}
use Rattle.query_names.specs.declared.reading.Condition.{Condition}
use Rattle.query_names.specs.declared.reading.Reading.{Reading}
use Rattle.query_totals.specs.Totals.{is_total, tallies_over}
use Rattle.query_totals.specs.declared.tally.Tally.{Tally}
use Rattle.query_groups.specs.Groups.{Entry, entries_kept, is_of_group}
use Rattle.query_answer.specs.Nesting.{Found, Named, all_kept, at_leaf, beside_rows, is_left, joins_by, key_and_rows, stepped}

-- whether a source stands alone, and no row of NULLs stands in for its rows
abbrev pub is_alone : List Named → Bool
is_alone (s ∷ []) = not (is_left s.1)
is_alone _ = false

-- whether a query gives nothing but aggregates of all its rows
abbrev pub is_of_totals : Reading → Bool
is_of_totals q = (length q.keys == 0) && ((length q.order == 0) && list_all is_total q.results)

-- whether a query gives nothing but keys and aggregates of each group, in the order of the keys
abbrev pub is_of_groups : Reading → Bool
is_of_groups q = not (length q.keys == 0) && ((length q.order == 0) && list_all is_of_group q.results)

-- whether a query takes its rows one by one: it has one source, and makes no groups, or gives nothing but aggregates of all rows, or keys and aggregates of
-- each group
abbrev pub is_row_by_row : Reading → Bool
is_row_by_row q = (not q.is_grouped || (is_of_totals q || is_of_groups q)) && is_alone q.sources

-- What a query has kept of its rows: what it gives of each, what it keeps of each aggregate, and what it keeps of each group.
abbrev pub Kept : Type 0
Kept = List Sortable × List Tally × List Entry

-- what is kept of rows that are to be grouped: a tally of each aggregate, of each group where there are keys
abbrev pub tallied_of : Reading → List Found → Bool → Kept
tallied_of q found true = ([], tallies_over (map (λ f. f.1) found) q.results, [])
tallied_of q found false = ([], [], entries_kept q.keys q.results (map key_and_rows found))

-- what is kept of these rows: of a query that makes no groups what it gives of each
abbrev pub kept_of : Reading → List Found → Kept
kept_of q found = if q.is_grouped then tallied_of q found (length q.keys == 0) else (map (λ f. f.0) found, [], [])

-- a row that is to be grouped has a value for each key
abbrev pub HasKeys : Reading → Found → Type 0
HasKeys q f = q.is_grouped ≡ true → length f.0.1 ≡ length q.keys

abbrev pub HaveKeys : Reading → List Found → Type 0
HaveKeys q found = AllByRecursion (HasKeys q) found

-- what is kept of these rows of the only source
abbrev pub part_of : Reading → List Row → Answer Kept
part_of q rows = all_kept q (beside_rows q.sources (rows ∷ [])) then λ found. Ok (kept_of q found)

-- what is kept of one row, where it joins
abbrev pub of_row : Reading → Condition → List Row → Flow Found
of_row q c rows = stepped (joins_by c rows) (at_leaf q rows) (λ joins. Finished)

-- what is kept of each of these rows
abbrev pub of_rows : Reading → Condition → List Row → Flow Found
of_rows q c rows = for_each (λ r. of_row q c (r ∷ [])) (flow_of rows)

-- what is refused of some rows is refused of these and more
abbrev pub StayRefused : Type 0
StayRefused = (q : Reading) (rows more : List Row) (r : Refusal) → is_row_by_row q ≡ true → part_of q rows ≡ Err r
    → rows_over q [] (beside_rows q.sources ((rows ++ more) ∷ [])) ≡ Err r

-- ---- queries that give each row by itself

-- The query gives a row for each row of its only source that WHERE keeps, in their order: no groups, DISTINCT, ORDER BY or LIMIT.
pub record GivesInOrder (q : Reading) : Type 0 where
  pub ungrouped : q.is_grouped ≡ false
  pub with_twins : q.distinct ≡ false
  pub unordered : q.order ≡ []
  pub unlimited : q.limit ≡ None
  pub alone : is_alone q.sources ≡ true

-- what a query answers over these rows of its only source
abbrev pub answer_on : Reading → List Row → Answer (List (List Value))
answer_on q rows = rows_over q [] (beside_rows q.sources (rows ∷ []))

-- the rows, without rowids, that are made of what was found
abbrev pub rows_made : List Found → List Row
rows_made found = plain_rows (map (λ f. f.0.0) found)

-- What such a query answers over some rows stands before what it answers over more.
pub record FollowOneAnother : Type 0 where
  pub none : (q : Reading) → GivesInOrder q → answer_on q [] ≡ Ok []
  pub both : (q : Reading) (rows more : List Row) → GivesInOrder q
      → answer_on q (rows ++ more) ≡ (answer_on q rows then λ xs. answer_on q more then λ ys. Ok (xs ++ ys))
