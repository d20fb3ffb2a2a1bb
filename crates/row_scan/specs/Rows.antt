-- The rows of a table.
use Rattle.std.specs.Prelude.{◌≡◌, true, ℤ, List, length}
use Rattle.smallvec.specs.SmallVec.{SmallVec}
use Rattle.sqlval.specs.declared.value.Value.{Value}
use Rattle.record.specs.Record.{IsRecord}
use Rattle.tree_leaf.specs.Leaf.{Entry}
use Rattle.catalog.specs.Rows.{holds_rowid, in_record}
use Rattle.catalog.specs.declared.tables.RowShape.{RowShape}

-- the values of a row
abbrev pub values_of : SmallVec Value → List Value
values_of row = row.items

-- a row of a table: its rowid, and its values
abbrev pub TableRow : Type 0
TableRow = ℤ × List Value

-- The entry of a page is this row: it has its rowid, and its payload is a record of its values, as many as the table has columns. The rowid's
-- own column, if there is one, holds the rowid, and NULL in the record.
pub record IsRow (shape : RowShape) (entry : Entry) (row : TableRow) : Type 0 where
  pub rowid : entry.rowid ≡ row.0
  pub values : IsRecord entry.payload (in_record shape.own row.1)
  pub full : length row.1 ≡ shape.width
  pub own : holds_rowid shape.own row ≡ true
