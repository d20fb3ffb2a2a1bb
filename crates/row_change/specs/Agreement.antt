-- What the rows of a tree and the definition of a table's rows agree in.
use Rattle.std.specs.Prelude.{◌≡◌, ◌≤◌, ℕ, Bool, true, false, not, filter, List, [], map, length, Option, Ok, All}
use Rattle.std.specs.List.{list_any}
use Rattle.sqlval.specs.Refusals.{◌then◌, fold_answer}
use Rattle.sqlval.specs.declared.value.Value.{Value}
use Rattle.sql_syntax.specs.declared.create.TriggerTime.{TriggerTime}
use Rattle.catalog.specs.Database.{Name, Database, ATable, Index, indexes_of, with_object}
use Rattle.catalog.specs.Listed.{as_index, with_rows}
use Rattle.catalog.specs.Named.{IsNamed}
use Rattle.catalog.specs.declared.tables.Table.{Table}
use Rattle.catalog.specs.Rows.{are_rows}
use Rattle.row_scan.specs.Rows.{TableRow}
use Rattle.row_change.specs.Binding.{row_with}
use Rattle.row_change.specs.Constraints.{table_of}
use Rattle.row_change.specs.Inserting.{rows_inserted, values_given}
use Rattle.row_change.specs.RowChanges.{Deleting, Fire, Firing, Inserting, Updating, delete_row, insert_row, is_quiet, update_row}
use Rattle.row_change.specs.Changes.{no_outer}
use Rattle.row_change.specs.Setting.{keeps_rowids, rows_set, rows_set_each, rows_turned}
use Rattle.query_terms.specs.Terms.{Term}

-- an event that sets no trigger off does nothing
abbrev pub IsStill : Fire → Type 0
IsStill fire = (time : TriggerTime) (firing : Firing) (db : Database) → is_quiet firing.event db firing.target ≡ true → fire time firing db ≡ Ok db

-- Set at their places among a table's defaults, the values of a row given are those of its columns.
abbrev pub IsSetFor : Table → List (Option ℕ) → List ℕ → List Value → Type 0
IsSetFor table by_column places given = row_with table places given ≡ values_given table.columns by_column given

-- the indexes that the database has on the table of this name are those listed with it
abbrev pub HasIndexesOf : Database → Name → Table → Type 0
HasIndexesOf db name table = (test : Index → Bool) → list_any (λ i. test i.1) (indexes_of db name) ≡ list_any (λ i. test (as_index table i)) table.indexes

-- An INSERT of rows into a listed table, where nothing is set off, leaves it with those that the rows become among its own, or
-- is refused as these are.
abbrev pub InsertsRows : Type 0
InsertsRows = (fire : Fire) (name : Name) (places : List ℕ) (db : Database) (table : Table) (by_column : List (Option ℕ)) (rows : List TableRow) (given : List (List Value))
    → IsStill fire → is_quiet Inserting db name ≡ true → HasIndexesOf db name table → table_of db name ≡ Ok (with_rows table rows) → are_rows (with_rows table rows) ≡ true
    → All (IsSetFor table by_column places) given → 1 ≤ length given
    → fold_answer (insert_row fire name places) db given
    ≡ (rows_inserted table by_column rows given then λ now. Ok (with_object db name (ATable (with_rows table now))))

-- A DELETE of all rows of a listed table, where nothing is set off, leaves it without rows.
abbrev pub DeletesRows : Type 0
DeletesRows = (fire : Fire) (name : Name) (db : Database) (table : Table) (rows : List TableRow)
    → IsStill fire → is_quiet Deleting db name ≡ true → IsNamed db → table_of db name ≡ Ok (with_rows table rows) → are_rows (with_rows table rows) ≡ true
    → fold_answer (delete_row fire name) db (map (λ row. row.0) rows) ≡ Ok (with_object db name (ATable (with_rows table [])))

-- A DELETE of some rows of a listed table, where nothing is set off, leaves it with the others.
abbrev pub DeletesSome : Type 0
DeletesSome = (fire : Fire) (name : Name) (db : Database) (table : Table) (rows : List TableRow) (gone : TableRow → Bool)
    → IsStill fire → is_quiet Deleting db name ≡ true → IsNamed db → table_of db name ≡ Ok (with_rows table rows) → are_rows (with_rows table rows) ≡ true
    → fold_answer (delete_row fire name) db (map (λ row. row.0) (filter gone rows))
    ≡ Ok (with_object db name (ATable (with_rows table (filter (λ row. not (gone row)) rows))))

-- An UPDATE of some rows of a listed table, where nothing is set off, leaves it with what SET makes of them and with the others, or is
-- refused as the first of them is.
abbrev pub UpdatesSome : Type 0
UpdatesSome = (fire : Fire) (name : Name) (db : Database) (table : Table) (rows : List TableRow) (sets : List (ℕ × Term)) (set : List Name) (is_meant : TableRow → Bool)
    → IsStill fire → is_quiet (Updating set) db name ≡ true → IsNamed db → HasIndexesOf db name table → table_of db name ≡ Ok (with_rows table rows) → are_rows (with_rows table rows) ≡ true
    → fold_answer (update_row fire no_outer name sets set) db (map (λ row. row.0) (filter is_meant rows))
    ≡ (rows_turned table sets rows (filter is_meant rows) then λ now. Ok (with_object db name (ATable (with_rows table now))))

-- ---- tables without a UNIQUE index

-- one of the table's indexes is UNIQUE
abbrev pub has_unique : Table → Bool
has_unique table = list_any (λ i. i.is_unique) table.indexes

-- Without a UNIQUE index, and where SET leaves the rowids, rows are set as they become, whether or not they are alone.
abbrev pub SetsAsEach : Type 0
SetsAsEach = (table : Table) (sets : List (ℕ × Term)) (condition : Option Term) (rows : List TableRow) → has_unique table ≡ false → keeps_rowids table sets ≡ true → are_rows (with_rows table rows) ≡ true
    → rows_set table sets condition rows ≡ rows_set_each table sets condition rows
