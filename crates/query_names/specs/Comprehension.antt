-- A query that nothing refuses, as a plain comprehension over its sources' rows (SQL As Understood By SQLite, "SELECT", "Simple Select Processing").
use Rattle.std.specs.Prelude.{◌≡◌, Bool, true, false, List, [], ◌∷◌, ◌++◌, map, filter, flat_map, Option, Some, None, Ok, Err}
use Rattle.std.specs.List.{AllByRecursion}
use Rattle.sqlval.specs.Refusals.{Answer}
use Rattle.sqlval.specs.declared.value.Value.{Value}
use Rattle.sqlval.specs.declared.value.Value.TheVariants.{Null}
use Rattle.query_names.specs.Readings.{env_of, holds, values, rows_over}
use Rattle.query_names.specs.declared.reading.Reading.{Reading}
use Rattle.query_names.specs.declared.reading.Condition.{Condition}
use Rattle.query_names.specs.declared.reading.Condition.TheVariants.{Always, Where, OrNulls}
use Rattle.query_terms.specs.Terms.{Term}
use Rattle.query_terms.specs.Values.{Row}

-- it has an answer and is true, not false or NULL
abbrev pub is_true : Answer (Option Bool) → Bool
is_true (Ok (Some b)) = b
is_true (Ok None) = false
is_true (Err r) = false

-- what was answered
abbrev pub given_row : Answer (List Value) → List Value
given_row (Ok vs) = vs
given_row (Err r) = []

-- one row of NULLs where there is no other
abbrev pub or_null_row : List Row → List (List Row) → List (List Row)
or_null_row rows [] = (rows ++ record { rowid = Null; values = [] } ∷ []) ∷ []
or_null_row rows (x ∷ xs) = x ∷ xs

-- the rows so far beside each row of one more source that its condition lets join
abbrev pub rows_beside : Condition → List Row → List Row → List (List Row)
rows_beside Always rows source = map (λ r. rows ++ r ∷ []) source
rows_beside (Where t) rows source = filter (λ both. is_true (holds t both)) (map (λ r. rows ++ r ∷ []) source)
rows_beside (OrNulls t) rows source = or_null_row rows (filter (λ both. is_true (holds t both)) (map (λ r. rows ++ r ∷ []) source))

-- all combinations, the last source's rows changing first
abbrev pub nested : List (Condition × List Row) → List Row → List (List Row)
nested [] rows = rows ∷ []
nested (s ∷ ss) rows = flat_map (nested ss) (rows_beside s.0 rows s.1)

abbrev pub passes : Option Term → List Row → Bool
passes None rows = true
passes (Some t) rows = is_true (holds t rows)

-- a condition that is refused over no rows
abbrev pub IsTold : Term → Type 0
IsTold t = (rows : List Row) → (b : Option Bool) × (holds t rows ≡ Ok b)

abbrev pub IsToldJoin : Condition × List Row → Type 0
IsToldJoin (Always, source) = Unit {0}
IsToldJoin (Where t, source) = IsTold t
IsToldJoin (OrNulls t, source) = IsTold t

abbrev pub IsToldFilter : Option Term → Type 0
IsToldFilter None = Unit {0}
IsToldFilter (Some t) = IsTold t

-- neither groups nor DISTINCT nor ORDER BY nor LIMIT, and nothing is refused
pub record IsPlain (q : Reading) (sources : List (Condition × List Row)) : Type 0 where
  pub no_groups : q.is_grouped ≡ false
  pub no_distinct : q.distinct ≡ false
  pub no_order : q.order ≡ []
  pub no_limit : q.limit ≡ None
  pub joins : AllByRecursion IsToldJoin sources
  pub filters : IsToldFilter q.filter
  pub results : (rows : List Row) → (vs : List Value) × (values (env_of rows) q.results ≡ Ok vs)

-- Its answer: the results of each combination of the sources' rows that WHERE keeps.
abbrev pub IsComprehension : Type 0
IsComprehension = (q : Reading) (outer : List Row) (sources : List (Condition × List Row)) → IsPlain q sources
    → rows_over q outer sources ≡ Ok (map (λ rows. given_row (values (env_of rows) q.results)) (filter (passes q.filter) (nested sources outer)))
