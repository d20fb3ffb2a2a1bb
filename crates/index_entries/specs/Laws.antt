-- How the entries of a table's rows change with the rows.
use Rattle.std.specs.Prelude.{◌≡◌, Bool, true, false, not, List, ◌∷◌, ◌++◌, filter}
use Rattle.tree_index.specs.Entries.{has_entry, with_entry, without_entry}
use Rattle.index_entries.specs.Entries.{AreApart, Columns, Row, collations, entries_of_rows, indexed}

-- With a row more, wherever it stands, there is its entry more, which wasn't there.
abbrev pub AddsItsEntry : Type 0
AddsItsEntry = (columns : Columns) (before after : List Row) (row : Row) → AreApart (before ++ row ∷ after)
    → (has_entry (collations columns) (indexed columns row) (entries_of_rows columns (before ++ after)) ≡ false)
    × (entries_of_rows columns (before ++ row ∷ after) ≡ with_entry (collations columns) (indexed columns row) (entries_of_rows columns (before ++ after)))

-- Without a row there is its entry less, which was there.
abbrev pub TakesItsEntry : Type 0
TakesItsEntry = (columns : Columns) (before after : List Row) (row : Row) → AreApart (before ++ row ∷ after)
    → (has_entry (collations columns) (indexed columns row) (entries_of_rows columns (before ++ row ∷ after)) ≡ true)
    × (without_entry (collations columns) (indexed columns row) (entries_of_rows columns (before ++ row ∷ after)) ≡ entries_of_rows columns (before ++ after))

-- The entries are the same where the rows that pass a test stand after the others.
abbrev pub SameWhereParted : Type 0
SameWhereParted = (columns : Columns) (test : Row → Bool) (rows : List Row) → AreApart rows
    → entries_of_rows columns (filter (λ row. not (test row)) rows ++ filter test rows) ≡ entries_of_rows columns rows
