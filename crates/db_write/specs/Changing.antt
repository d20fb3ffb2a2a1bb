-- What changes of a table make of its trees (SQL As Understood By SQLite, "INSERT", "DELETE", "UPDATE", "DROP TABLE", "CREATE INDEX", "DROP INDEX").
use Rattle.std.specs.Prelude.{◌≡◌, ◌⊎◌, ⊤, ℕ, Bool, true, false, List, [], ◌∷◌, ◌++◌, length, nat_lt, Option, Some, None, Result, Ok, Err, MatchResult}
use Rattle.std.specs.List.{list_any}
use Rattle.sqlval.specs.Faults.{IsOutside}
use Rattle.sqlval.specs.PageSizes.{IsPageSize}
use Rattle.sqlval.specs.Refusals.{refusal_of}
use Rattle.sqlval.specs.declared.fault.Fault.{Fault}
use Rattle.sqlval.specs.declared.fault.Fault.TheVariants.{TooLong, Unique}
use Rattle.sqlval.specs.declared.value.Value.{Value}
use Rattle.pages.specs.Calls.{IsOutsideOrFull}
use Rattle.pages.specs.Map.{PageMap}
use Rattle.db_layout.specs.Layout.{Owner}
use Rattle.catalog.specs.Database as database
use Rattle.catalog.specs.Listed.{with_rows}
use Rattle.catalog.specs.Rows.{are_rows}
use Rattle.catalog.specs.declared.tables.Index.{Index}
use Rattle.catalog.specs.declared.tables.IndexColumn.{IndexColumn}
use Rattle.catalog.specs.declared.tables.Table.{Table}
use Rattle.query_names.specs.Keys.{has_clash}
use Rattle.query_terms.specs.Terms.{Term}
use Rattle.row_scan.specs.Rows.{TableRow}
use Rattle.row_change.specs.Choosing.{rows_left}
use Rattle.row_change.specs.Inserting.{rows_inserted}
use Rattle.row_change.specs.Setting.{rows_set}
use Rattle.index_entries.specs.Keeping.{columns_in}
use Rattle.db_layout.specs.Trees.{AreAmong, HoldsNow}
use Rattle.db_write.specs.Turning.{AreLeft}

-- Among all trees of a file stand those of the table, with rows that it may hold. Then what is made of them and of the rows holds, or the
-- refusal has this cause.
abbrev pub ChangesTable : PageMap → ℕ → Table → (Owner → List Owner → List Owner → List TableRow → Type 0) → (List TableRow → Fault → Type 0)
    → Result ⊤ Fault → Type 0
ChangesTable old size table Makes Why result = (schema : Owner) (before after : List Owner) (rows : List TableRow) → IsPageSize size → schema.root ≡ 1
    → AreAmong old size schema before table rows after → are_rows (with_rows table rows) ≡ true
    → MatchResult result (λ done. Makes schema before after rows) (Why rows)

-- the table's trees have these rows and their entries, and the table may hold the rows
pub record HoldsFitRows (old new : PageMap) (size : ℕ) (schema : Owner) (before : List Owner) (table : Table) (rows : List TableRow)
    (after : List Owner) : Type 0 where
  pub holds : HoldsNow old new size schema before table rows after
  pub fit : are_rows (with_rows table rows) ≡ true

-- ---- indexes that are too wide

-- so many columns leave no room for the rowid in a record
abbrev pub is_wide : ℕ → Bool
is_wide columns = nat_lt 999 columns

-- one of the table's indexes has so many
abbrev pub has_wide_index : Table → Bool
has_wide_index table = list_any (λ i. is_wide (length i.columns)) table.indexes

-- no record can hold an index's entry of a row, whatever its values
abbrev pub IsTooWide : Table → Fault → Type 0
IsTooWide table fault = (fault ≡ TooLong) × (has_wide_index table ≡ true)

-- ---- INSERT

-- The table has what the rows given become, among its rows ("INSERT").
pub record AreInserted (old new : PageMap) (size : ℕ) (schema : Owner) (before : List Owner) (table : Table) (places : List (Option ℕ))
    (given : List (List Value)) (rows : List TableRow) (after : List Owner) : Type 0 where
  pub now : List TableRow
  pub answer : rows_inserted table places rows given ≡ Ok now
  pub hold : HoldsFitRows old new size schema before table now after

-- why rows aren't inserted
abbrev pub IsRefusedInsert : Table → List (Option ℕ) → List (List Value) → List TableRow → Fault → Type 0
IsRefusedInsert table places given rows fault =
    IsOutsideOrFull fault ⊎ ((rows_inserted table places rows given ≡ Err (refusal_of fault)) ⊎ IsTooWide table fault)

-- Rows given are inserted into the table ("INSERT"). Or memory or pages are short, or a disk's call failed; or what they become is
-- refused, or an index is too wide.
abbrev pub InsertsInTrees : PageMap → PageMap → ℕ → Table → List (Option ℕ) → List (List Value) → Result ⊤ Fault → Type 0
InsertsInTrees old new size table places given result = ChangesTable old size table
    (λ schema before after rows. AreInserted old new size schema before table places given rows after) (IsRefusedInsert table places given) result

-- ---- DELETE

-- The table has the rows that the condition leaves ("DELETE").
pub record AreDeleted (old new : PageMap) (size : ℕ) (schema : Owner) (before : List Owner) (table : Table) (condition : Term)
    (rows : List TableRow) (after : List Owner) : Type 0 where
  pub left : List TableRow
  pub answer : rows_left condition rows ≡ Ok left
  pub hold : HoldsFitRows old new size schema before table left after

-- why rows aren't deleted by a condition
abbrev pub IsRefusedDelete : Term → List TableRow → Fault → Type 0
IsRefusedDelete condition rows fault = IsOutsideOrFull fault ⊎ (rows_left condition rows ≡ Err (refusal_of fault))

-- Rows are deleted from the table, those for which the condition is true or all where there is none ("DELETE"). Or memory or pages are
-- short, or a disk's call failed; or the condition is refused for a row.
abbrev pub DeletesInTrees : PageMap → PageMap → ℕ → Table → Option Term → Result ⊤ Fault → Type 0
DeletesInTrees old new size table None result = ChangesTable old size table
    (λ schema before after rows. HoldsFitRows old new size schema before table [] after) (λ rows fault. IsOutsideOrFull fault) result
DeletesInTrees old new size table (Some condition) result = ChangesTable old size table
    (λ schema before after rows. AreDeleted old new size schema before table condition rows after) (IsRefusedDelete condition) result

-- ---- UPDATE

-- The table has the rows that SET leaves ("UPDATE").
pub record AreUpdated (old new : PageMap) (size : ℕ) (schema : Owner) (before : List Owner) (table : Table) (condition : Option Term)
    (sets : List (ℕ × Term)) (rows : List TableRow) (after : List Owner) : Type 0 where
  pub now : List TableRow
  pub answer : rows_set table sets condition rows ≡ Ok now
  pub hold : HoldsFitRows old new size schema before table now after

-- why rows aren't updated
abbrev pub IsRefusedUpdate : Table → Option Term → List (ℕ × Term) → List TableRow → Fault → Type 0
IsRefusedUpdate table condition sets rows fault =
    IsOutsideOrFull fault ⊎ ((rows_set table sets condition rows ≡ Err (refusal_of fault)) ⊎ IsTooWide table fault)

-- Values are set in the rows of the table for which the condition is true, or in all where there is none ("UPDATE"). Or memory or pages
-- are short, or a disk's call failed; or the condition, an expression or what a row becomes is refused, or an index is too wide.
abbrev pub UpdatesInTrees : PageMap → PageMap → ℕ → Table → Option Term → List (ℕ × Term) → Result ⊤ Fault → Type 0
UpdatesInTrees old new size table condition sets result = ChangesTable old size table
    (λ schema before after rows. AreUpdated old new size schema before table condition sets rows after) (IsRefusedUpdate table condition sets) result

-- ---- DROP TABLE

-- All trees of the table are given back, and the others share the pages ("DROP TABLE"). Or memory was short, or a disk's call failed.
abbrev pub DropsTrees : PageMap → PageMap → ℕ → Table → Result ⊤ Fault → Type 0
DropsTrees old new size table result = ChangesTable old size table
    (λ schema before after rows. AreLeft old new size (schema ∷ before ++ after)) (λ rows fault. IsOutside fault) result

-- ---- CREATE INDEX and DROP INDEX

-- the table with these indexes
abbrev pub with_indexes : Table → List Index → Table
with_indexes table indexes = record table { indexes = indexes }

-- Under the root stands the tree of an index of these columns, after the table's others ("CREATE INDEX").
abbrev pub HasIndex : PageMap → PageMap → ℕ → Owner → List Owner → Table → List IndexColumn → List TableRow → List Owner → ℕ → Type 0
HasIndex old new size schema before table columns rows after root = (index : Index) → index.columns ≡ columns → index.root ≡ root
    → HoldsNow old new size schema before (with_indexes table (table.indexes ++ index ∷ [])) rows after

-- an index of these columns, and whether it is UNIQUE
abbrev pub index_of : List IndexColumn → Bool → database.Index
index_of columns is_unique = record { table = []; is_unique = is_unique; is_automatic = false; columns = columns_in columns }

-- The tree of the index was made, over rows that it keeps apart, and its root answered.
pub record IsIndexAdded (old new : PageMap) (size : ℕ) (schema : Owner) (before : List Owner) (table : Table) (columns : List IndexColumn)
    (is_unique : Bool) (rows : List TableRow) (after : List Owner) (root : ℕ) : Type 0 where
  pub apart : has_clash (index_of columns is_unique) rows ≡ false
  pub has : HasIndex old new size schema before table columns rows after root

-- Why it isn't: memory or pages are short, or a disk's call failed; two of the rows have one key; or the index is too wide.
abbrev pub IsRefusedIndex : List IndexColumn → Bool → List TableRow → Fault → Type 0
IsRefusedIndex columns is_unique rows fault = IsOutsideOrFull fault
    ⊎ (((fault ≡ Unique) × (has_clash (index_of columns is_unique) rows ≡ true)) ⊎ ((fault ≡ TooLong) × (is_wide (length columns) ≡ true)))

-- The tree of a new index of these columns, UNIQUE or not, is made, and its root answered ("CREATE INDEX"); or the call is refused.
abbrev pub AddsIndex : PageMap → PageMap → ℕ → Table → List IndexColumn → Bool → Result ℕ Fault → Type 0
AddsIndex old new size table columns is_unique result = (schema : Owner) (before after : List Owner) (rows : List TableRow) → IsPageSize size → schema.root ≡ 1
    → AreAmong old size schema before table rows after → are_rows (with_rows table rows) ≡ true
    → MatchResult result (IsIndexAdded old new size schema before table columns is_unique rows after) (IsRefusedIndex columns is_unique rows)

-- The tree of one of a table's indexes is given back, and the table has its other trees ("DROP INDEX"). Or memory was short, or a disk's
-- call failed.
abbrev pub FreesIndex : PageMap → PageMap → ℕ → ℕ → Result ⊤ Fault → Type 0
FreesIndex old new size root result = (table : Table) (front rest : List Index) (index : Index) → index.root ≡ root
    → ChangesTable old size (with_indexes table (front ++ index ∷ rest))
    (λ schema before after rows. HoldsNow old new size schema before (with_indexes table (front ++ rest)) rows after) (λ rows fault. IsOutside fault) result
