-- The places of rows, and the first of neighbours whose results tie.
use Rattle.std.specs.Prelude.{◌<◌, ◌≤◌, ℕ, ◌+◌, ◌-◌, Bool, false, List, [], ◌∷◌, ◌++◌, length, if◌then◌else◌, Option, Some, None, slice_get}
use Rattle.std.specs.Ordering.{is_eq}
use Rattle.std.specs.declared.cmp.Ordering.{Ordering}
use Rattle.sqlval.specs.declared.value.Value.{Value}
use Rattle.query_answer.specs.Sorting.{by_values}
use Rattle.query_answer.specs.declared.results.FoundRow.{FoundRow}
use Rattle.query_answer.specs.declared.sorting.SortOrder.{SortOrder}

-- how two rows stand by their results
abbrev pub by_results : List SortOrder → FoundRow → FoundRow → Ordering
by_results orders r s = by_values orders r.results s.results

abbrev pub have_same_results : List SortOrder → FoundRow → FoundRow → Bool
have_same_results orders r s = is_eq (by_results orders r s)

-- the results of a row, if there is one
abbrev pub results_of : Option FoundRow → List Value
results_of None = []
results_of (Some r) = r.results

-- how the rows at two places stand by their results
abbrev pub by_places : List SortOrder → List FoundRow → ℕ → ℕ → Ordering
by_places orders rows i j = by_values orders (results_of (slice_get rows i)) (results_of (slice_get rows j))

abbrev pub tie_at : List SortOrder → List FoundRow → ℕ → ℕ → Bool
tie_at orders rows i j = is_eq (by_places orders rows i j)

-- whether the row at the last of the places kept has the results of the row at this one
abbrev pub last_ties : List SortOrder → List FoundRow → List ℕ → ℕ → Bool
last_ties orders rows kept i = elim (slice_get kept (length kept - 1)) [ None ↦ false | Some k ↦ tie_at orders rows k i ]

abbrev pub kept_with : List SortOrder → List FoundRow → List ℕ → ℕ → List ℕ
kept_with orders rows kept i = if last_ties orders rows kept i then kept else (kept ++ i ∷ [])

-- those kept before, and those of a list that don't tie with the one kept before them
abbrev pub kept_after : List SortOrder → List FoundRow → List ℕ → List ℕ → List ℕ
kept_after orders rows kept [] = kept
kept_after orders rows kept (i ∷ is) = kept_after orders rows (kept_with orders rows kept i) is

-- places that rise, from one on and below another
abbrev pub AreRisingPlaces : ℕ → ℕ → List ℕ → Type 0
AreRisingPlaces low high [] = Unit {0}
AreRisingPlaces low high (i ∷ is) = ((low ≤ i) × (i < high)) × AreRisingPlaces (i + 1) high is
