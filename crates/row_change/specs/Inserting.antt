-- What INSERT adds to a table, as rows and as entries of its tree (SQL As Understood By SQLite, "INSERT", and SQLite Autoincrement).
use Rattle.std.specs.Prelude.{◌+ℤ◌, ◌^◌, ◌-◌, ℕ, ℤ, pos, int_lt, List, [], ◌∷◌, map, slice_get, slice_index_or, slice_set, Option, Some, None, Ok, Err, unwrap_or, if◌then◌else◌, All}
use Rattle.std.specs.FinMap.Entries.{put}
use Rattle.std.specs.Ordering.{int_cmp}
use Rattle.sqlval.specs.Refusals.{Answer, ◌then◌, RowidFull, RowidMismatch}
use Rattle.sqlval.specs.declared.value.Value.{Value}
use Rattle.sqlval.specs.declared.value.Value.TheVariants.{Null, Int}
use Rattle.record.specs.Writing.{AreStorable, record_of}
use Rattle.tree_leaf.specs.Leaf.{Entry}
use Rattle.catalog.specs.Listed.{as_column, own_column}
use Rattle.catalog.specs.Rows.{in_record}
use Rattle.catalog.specs.declared.tables.Column.{Column}
use Rattle.catalog.specs.declared.tables.Table.{Table}
use Rattle.row_scan.specs.Rows.{TableRow}
use Rattle.row_change.specs.Constraints.{with_affinity}
use Rattle.row_change.specs.Demands.{admitted, demanded}

-- ---- the rows that are added

-- the value of a column in a new row: the one given for it, at its place, or its default where it has none
abbrev pub given_for : Column → List Value → Option ℕ → Value
given_for column given None = column.default
given_for column given (Some place) = slice_index_or given place Null

-- for each column its value
abbrev pub values_given : List Column → List (Option ℕ) → List Value → List Value
values_given [] places given = []
values_given (column ∷ columns) [] given = column.default ∷ values_given columns [] given
values_given (column ∷ columns) (place ∷ places) given = given_for column given place ∷ values_given columns places given

-- what the columns store of a row given
abbrev pub row_stored : List Column → List (Option ℕ) → List Value → Answer (List Value)
row_stored columns places given = with_affinity (map as_column columns) (values_given columns places given)

-- The rowid after the last: 1 where there is none. The greatest of all, 9223372036854775807, has none after it.
abbrev pub rowid_after : Option ℤ → Answer ℤ
rowid_after None = Ok (pos 1)
rowid_after (Some last) = if int_lt last (pos (2 ^ 63 - 1)) then Ok (last +ℤ pos 1) else Err RowidFull

-- the value at the place of the rowid's own column, NULL where there is no such column
abbrev pub own_value : Option ℕ → List Value → Value
own_value None values = Null
own_value (Some place) values = unwrap_or (slice_get values place) Null

-- with this value at the place of the rowid's own column, if there is one
abbrev pub with_own_value : Option ℕ → Value → List Value → List Value
with_own_value None value values = values
with_own_value (Some place) value values = slice_set values place value

-- The rowid of a new row after the last: the one given, or the next where none is.
abbrev pub rowid_given : Option ℤ → Value → Answer ℤ
rowid_given last Null = rowid_after last
rowid_given last (Int rowid) = Ok rowid
rowid_given last _ = Err RowidMismatch

-- The row that a row given becomes after the last rowid: what the columns store, then its rowid, which its own column gives, if there is one
-- and not NULL, and then what the table demands of it.
abbrev pub row_added : Table → List (Option ℕ) → Option ℤ → List Value → Answer TableRow
row_added table places last given =
    row_stored table.columns places given then λ values.
    rowid_given last (own_value (own_column table) values) then λ rowid.
    demanded table (rowid, with_own_value (own_column table) (Int rowid) values)

-- the rowid of the last row, where there is one: the greatest, since rowids rise
abbrev pub last_rowid : List TableRow → Option ℤ
last_rowid [] = None
last_rowid (row ∷ rows) = Some (unwrap_or (last_rowid rows) row.0)

-- The rows of the table, with those among them that the rows given become, one after another, each alone among the rows before it; or the
-- first refusal.
abbrev pub rows_inserted : Table → List (Option ℕ) → List TableRow → List (List Value) → Answer (List TableRow)
rows_inserted table places rows [] = Ok rows
rows_inserted table places rows (given ∷ more) =
    row_added table places (last_rowid rows) given then λ row.
    admitted table rows row then λ row.
    rows_inserted table places (put int_cmp row.0 row.1 rows) more

-- ---- their entries

-- the entry of a row, with the record that is written of its values, in which the rowid's own column has NULL
abbrev pub entry_for : Option ℕ → TableRow → Entry
entry_for own row = record { rowid = row.0; payload = record_of (in_record own row.1) }

-- a record can hold each row's values
abbrev pub AllStorable : List TableRow → Type 0
AllStorable rows = All (λ row. AreStorable row.1) rows
