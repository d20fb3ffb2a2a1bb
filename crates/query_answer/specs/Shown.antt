-- Queries that show values of each row of a source, and do nothing else (SQL As Understood By SQLite, "SELECT").
use Rattle.std.specs.Prelude.{◌≡◌, false, List, [], ◌∷◌, map, Some, None, Ok}
use Rattle.sqlval.specs.declared.value.Value.{Value}
use Rattle.query_terms.specs.Values.{Row, at_row}
use Rattle.query_terms.specs.declared.tree.Place.{Place}
use Rattle.query_names.specs.Readings.{rows_over}
use Rattle.query_names.specs.declared.reading.Condition.TheVariants.{Always}
use Rattle.query_names.specs.declared.reading.Reading.{Reading}
use Rattle.query_answer.specs.Nesting.{Named, beside_rows}

-- there is one source, each of whose rows is taken
abbrev pub IsBare : List Named → Type 0
IsBare sources = (source : Named) × (sources ≡ source ∷ []) × (source.1 ≡ Always)

-- The query has one source, of which it takes each row once and in order: no ON, WHERE, GROUP BY, DISTINCT, ORDER BY or LIMIT.
pub record AnswersAll (q : Reading) : Type 0 where
  pub bare : IsBare q.sources
  pub unfiltered : q.filter ≡ None
  pub ungrouped : q.is_grouped ≡ false
  pub with_twins : q.distinct ≡ false
  pub unordered : q.order ≡ []
  pub unlimited : q.limit ≡ None

-- what is shown of each of these rows, of which it has the values at these places
abbrev pub shown_of : List Place → List Row → List (List Value)
shown_of places rows = map (λ row. map (at_row (Some row)) places) rows

-- whatever the rows of its source, the query shows of each row, in their order, the values at these places
abbrev pub ShowsPlaces : Reading → List Place → Type 0
ShowsPlaces q places = (rows : List Row) → rows_over q [] (beside_rows q.sources (rows ∷ [])) ≡ Ok (shown_of places rows)
