-- What a table demands of a row by itself, and what its UNIQUE indexes demand of it beside other rows (SQL As Understood By SQLite, "CREATE
-- TABLE", "Not Null Constraints", "CHECK constraints"; "CREATE INDEX", "Unique Indexes").
use Rattle.std.specs.Prelude.{Bool, not, is_none, List, map, Ok}
use Rattle.std.specs.FinMap.Entries.{find}
use Rattle.std.specs.List.{list_any}
use Rattle.std.specs.Ordering.{int_cmp}
use Rattle.sqlval.specs.Refusals.{Answer, ◌then◌, NotNull, TooLong, Unique}
use Rattle.catalog.specs.Listed.{as_column, as_index}
use Rattle.catalog.specs.declared.tables.Table.{Table}
use Rattle.query_names.specs.Keys.{clash}
use Rattle.row_scan.specs.Rows.{TableRow}
use Rattle.row_scan.specs.Sources.{as_source}
use Rattle.row_change.specs.Constraints.{can_be_stored, checks_hold, demand, not_null_holds}

-- the row, where no column that refuses NULL has it, a record can hold it, and no CHECK refuses it
abbrev pub demanded : Table → TableRow → Answer TableRow
demanded table row =
    demand (not_null_holds (map as_column table.columns) row.1) NotNull then λ _.
    demand (can_be_stored row.1) TooLong then λ _.
    checks_hold (as_source row) table.checks then λ _.
    Ok row

-- the row, where none of these has its rowid
abbrev pub with_own_rowid : List TableRow → TableRow → Answer TableRow
with_own_rowid rows row = demand (is_none (find int_cmp row.0 rows)) Unique then λ _. Ok row

-- none of the rows has the row's key in a UNIQUE index
abbrev pub is_alone : Table → TableRow → List TableRow → Bool
is_alone table row rows = not (list_any (λ i. list_any (λ r. clash (as_index table i) row.1 r.1) rows) table.indexes)

-- the row, where it is alone among these: none has its rowid, nor its key
abbrev pub admitted : Table → List TableRow → TableRow → Answer TableRow
admitted table rows row = with_own_rowid rows row then λ row. demand (is_alone table row rows) Unique then λ _. Ok row
