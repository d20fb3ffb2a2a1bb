-- The rows of a key and of a range, by example.
use Rattle.std.specs.Prelude.{◌≡◌, refl, false, true, ℤ, pos, codes, List, [], ◌∷◌, filter, map, Option, Some, None}
use Rattle.sqlval.specs.declared.collation.Collation.TheVariants.{Binary, NoCase}
use Rattle.sqlval.specs.declared.value.Value.{Value}
use Rattle.sqlval.specs.declared.value.Value.TheVariants.{Null, Int, Text}
use Rattle.catalog.specs.declared.tables.IndexColumn.{IndexColumn}
use Rattle.index_entries.specs.Entries.{Row, collations, entries_of_rows}
use Rattle.index_entries.specs.Keeping.{columns_in}
use Rattle.row_search.specs.Finding.{first_rowids, is_sought, sought_from}
use Rattle.query_plan.specs.Ranges.{has_range}
use Rattle.query_plan.specs.declared.ranges.Bound.{Bound}
use Rattle.query_plan.specs.declared.ranges.Range.{Range}
use Rattle.query_plan.specs.Keys.{has_key}

-- an index of the second column, in which letters' case is one, and of the first
abbrev columns : List IndexColumn
columns = record { place = 1; collation = NoCase } ∷ record { place = 0; collation = Binary } ∷ []

abbrev rows : List Row
rows =
    (pos 1, Int (pos 5) ∷ Text (codes "b") ∷ []) ∷ (pos 2, Int (pos 7) ∷ Text (codes "a") ∷ []) ∷ (pos 3, Int (pos 6) ∷ Text (codes "A") ∷ [])
    ∷ (pos 4, Int (pos 7) ∷ Null ∷ []) ∷ []

abbrev keyed : List Value → List ℤ
keyed key = map (λ row. row.0) (filter (λ (row : Row). has_key columns key row.1) rows)

abbrev found_in : List Value → Option Range → List ℤ
found_in key range =
    let under = collations (columns_in columns) in
    first_rowids (is_sought under key range) (sought_from under key range (entries_of_rows (columns_in columns) rows))

abbrev found : List Value → List ℤ
found key = found_in key None

pub by_first_column : keyed (Text (codes "a") ∷ []) ≡ pos 2 ∷ pos 3 ∷ []
by_first_column = refl

pub by_both_columns : keyed (Text (codes "A") ∷ Int (pos 7) ∷ []) ≡ pos 2 ∷ []
by_both_columns = refl

pub null_is_tied_with_null : keyed (Null ∷ []) ≡ pos 4 ∷ []
null_is_tied_with_null = refl

pub in_order_of_entries : found (Text (codes "a") ∷ []) ≡ pos 3 ∷ pos 2 ∷ []
in_order_of_entries = refl

pub none_between : found (Text (codes "a") ∷ Int (pos 8) ∷ []) ≡ []
none_between = refl

-- ---- ranges

abbrev at : Value → Option Bound
at value = Some (record { value = value; within = true })

abbrev beyond : Value → Option Bound
beyond value = Some (record { value = value; within = false })

abbrev between : Option Bound → Option Bound → Range
between low high = record { low = low; high = high }

abbrev ranged : List Value → Range → List ℤ
ranged key range = map (λ row. row.0) (filter (λ (row : Row). has_range columns key range row.1) rows)

pub null_is_in_none : ranged [] (between None (at (Text (codes "b")))) ≡ pos 1 ∷ pos 2 ∷ pos 3 ∷ []
null_is_in_none = refl

pub an_end_that_is_not_within : ranged [] (between (beyond (Text (codes "a"))) None) ≡ pos 1 ∷ []
an_end_that_is_not_within = refl

pub of_the_column_after_a_key : ranged (Text (codes "a") ∷ []) (between (at (Int (pos 7))) None) ≡ pos 2 ∷ []
of_the_column_after_a_key = refl

pub begun_after_null : found_in [] (Some (between None (at (Text (codes "a"))))) ≡ pos 3 ∷ pos 2 ∷ []
begun_after_null = refl

pub begun_after_its_end : found_in [] (Some (between (beyond (Text (codes "a"))) None)) ≡ pos 1 ∷ []
begun_after_its_end = refl

pub begun_at_null : found_in [] (Some (between (at Null) None)) ≡ pos 3 ∷ pos 2 ∷ pos 1 ∷ []
begun_at_null = refl
