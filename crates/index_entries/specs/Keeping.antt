-- What keeping an index equal to its table does to the index's tree (Database File Format, "Representation Of SQL Indices").
use Rattle.std.specs.Prelude.{◌≡◌, ◌⊎◌, ⊤, ℕ, List, ◌∷◌, ◌++◌, map, Result, MatchResult}
use Rattle.std.specs.List.{AllByRecursion}
use Rattle.sqlval.specs.declared.fault.Fault.{Fault}
use Rattle.sqlval.specs.declared.fault.Fault.TheVariants.{TooLong}
use Rattle.record.specs.Writing.{AreStorable}
use Rattle.pages.specs.Calls.{IsOutsideOrFull}
use Rattle.pages.specs.Map.{PageMap}
use Rattle.tree_index.specs.Calls.{BecomesEntries, Stands}
use Rattle.index_entries.specs.Entries.{AreApart, Columns, Row, collations, entries_of_rows, indexed}
use Rattle.catalog.specs.declared.tables.IndexColumn.{IndexColumn}
use Rattle.catalog.specs.declared.tables.TableRow.{TableRow}

-- the columns, each by its place and the collation of its key
abbrev pub columns_in : List IndexColumn → Columns
columns_in columns = map (λ column. (column.place, column.collation)) columns

-- the row, by its rowid and its values
abbrev pub row_in : TableRow → Row
row_in row = (row.rowid, row.values.items)

-- Where the index's tree has the entries of some rows, it has those of others then, or it is refused.
abbrev pub Turns : PageMap → PageMap → ℕ → ℕ → Columns → List Row → List Row → (Fault → Type 0) → Result ⊤ Fault → Type 0
Turns old new size root columns before after Why result = (used free : List ℕ)
    → Stands old size root (collations columns) (entries_of_rows columns before) used free
    → MatchResult result (λ done. BecomesEntries old new size root (collations columns) (entries_of_rows columns after) used free) Why

-- memory was short, a disk's call failed, there are as many pages as there may be, or no record can hold the entry of a row
abbrev pub IsAddRefusal : Columns → List Row → Fault → Type 0
IsAddRefusal columns added fault =
    IsOutsideOrFull fault ⊎ ((fault ≡ TooLong) × (AllByRecursion (λ row. AreStorable (indexed columns row)) added → ⊥))

-- Rows of other rowids come to the table, and their entries to the index.
abbrev pub AddsEntries : PageMap → PageMap → ℕ → ℕ → Columns → List Row → Result ⊤ Fault → Type 0
AddsEntries old new size root columns added result = (rows : List Row) → AreApart (rows ++ added)
    → Turns old new size root columns rows (rows ++ added) (IsAddRefusal columns added) result

-- A row goes from among others, and its entry from the index.
abbrev pub TakesEntry : PageMap → PageMap → ℕ → ℕ → Columns → Row → Result ⊤ Fault → Type 0
TakesEntry old new size root columns row result = (before after : List Row) → AreApart (before ++ row ∷ after)
    → Turns old new size root columns (before ++ row ∷ after) (before ++ after) IsOutsideOrFull result

-- Rows go from the table, and their entries from the index.
abbrev pub TakesEntries : PageMap → PageMap → ℕ → ℕ → Columns → List Row → Result ⊤ Fault → Type 0
TakesEntries old new size root columns gone result = (rows : List Row) → AreApart (rows ++ gone)
    → Turns old new size root columns (rows ++ gone) rows IsOutsideOrFull result
