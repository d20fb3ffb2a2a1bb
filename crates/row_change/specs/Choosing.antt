-- Which rows of a table a condition chooses (SQL As Understood By SQLite, "DELETE", "UPDATE").
use Rattle.std.specs.Prelude.{Bool, true, false, not, filter, if◌then◌else◌, unwrap_or, ℤ, List, [], ◌∷◌, ◌++◌, map, Option, Some, None, Ok}
use Rattle.sqlval.specs.Refusals.{Answer, ◌then◌, all_answers}
use Rattle.sqlval.specs.declared.value.Value.TheVariants.{Int}
use Rattle.query_names.specs.Readings.{holds}
use Rattle.query_terms.specs.Terms.{Term}
use Rattle.query_terms.specs.Values.{Row}
use Rattle.row_scan.specs.Rows.{TableRow}
use Rattle.row_scan.specs.Sources.{as_source}

-- whether the condition is true for a row, or its refusal
abbrev pub tested : Term → TableRow → Answer (Option Bool)
tested condition row = holds condition (as_source row ∷ [])

-- it is true for the row
abbrev pub is_chosen : Term → TableRow → Bool
is_chosen condition row = elim (tested condition row) [ Ok (Some true) ↦ true | _ ↦ false ]

-- The rows for which it is true, or the first refusal.
abbrev pub chosen : Term → List TableRow → Answer (List TableRow)
chosen condition rows = all_answers (map (tested condition) rows) then λ tests. Ok (filter (is_chosen condition) rows)

-- the rows for which the condition is true, or all where there is none; or the first refusal
abbrev pub chosen_or_all : Option Term → List TableRow → Answer (List TableRow)
chosen_or_all None rows = Ok rows
chosen_or_all (Some condition) rows = chosen condition rows

-- The rows that stay where those are taken out, or the first refusal.
abbrev pub rows_left : Term → List TableRow → Answer (List TableRow)
rows_left condition rows = all_answers (map (tested condition) rows) then λ tests. Ok (filter (λ row. not (is_chosen condition row)) rows)

-- ---- of a source's rows

-- whether the condition is true for it, or its refusal
abbrev pub is_true_for : Term → Row → Answer Bool
is_true_for condition row = holds condition (row ∷ []) then λ test. Ok (unwrap_or test false)

-- the rowid of a table's row
abbrev pub rowid_in : Row → Option ℤ
rowid_in row = elim row.rowid [ Int rowid ↦ Some rowid | _ ↦ None ]

-- its rowid where the condition is true for it
abbrev pub rowid_if : Term → Row → Answer (Option ℤ)
rowid_if condition row = is_true_for condition row then λ test. Ok (if test then rowid_in row else None)

-- the rowids with one more, where there is one
abbrev pub with_rowid : List ℤ → Option ℤ → List ℤ
with_rowid rowids None = rowids
with_rowid rowids (Some rowid) = rowids ++ rowid ∷ []

-- after some rowids those of the rows for which it is true, or the first refusal
abbrev pub rowids_after : Term → List ℤ → List Row → Answer (List ℤ)
rowids_after condition rowids [] = Ok rowids
rowids_after condition rowids (row ∷ rows) = rowid_if condition row then λ rowid. rowids_after condition (with_rowid rowids rowid) rows
