-- The entries that an index has of a table's rows (Database File Format, "Representation Of SQL Indices").
use Rattle.std.specs.Prelude.{◌≡◌, ⊤, ℕ, ℤ, List, [], ◌∷◌, ◌++◌, map, slice_index_or}
use Rattle.std.specs.List.{AllByRecursion}
use Rattle.sqlval.specs.Lists.{sorted}
use Rattle.sqlval.specs.declared.collation.Collation.{Collation}
use Rattle.sqlval.specs.declared.value.Value.{Value}
use Rattle.sqlval.specs.declared.value.Value.TheVariants.{Null, Int}
use Rattle.tree_index.specs.Entries.{Entry, entry_cmp}

-- a row of a table: its rowid, and its values
abbrev pub Row : Type 0
Row = ℤ × List Value

-- the columns of an index: each one's place in the table, and the collation of its key
abbrev pub Columns : Type 0
Columns = List (ℕ × Collation)

abbrev pub collations : Columns → List Collation
collations columns = map (λ column. column.1) columns

-- a row's entry: the values of the indexed columns, then the rowid
abbrev pub indexed : Columns → Row → Entry
indexed columns row = map (λ column. slice_index_or row.1 column.0 Null) columns ++ Int row.0 ∷ []

-- the entries of the rows, in the index's order
abbrev pub entries_of_rows : Columns → List Row → List Entry
entries_of_rows columns rows = sorted (entry_cmp (collations columns)) (map (indexed columns) rows)

-- the row has another rowid than each of these
abbrev pub IsApart : Row → List Row → Type 0
IsApart row rows = AllByRecursion (λ (other : Row). row.0 ≡ other.0 → ⊥) rows

-- no two of the rows have one rowid
abbrev pub AreApart : List Row → Type 0
AreApart [] = ⊤
AreApart (row ∷ rows) = IsApart row rows × AreApart rows
