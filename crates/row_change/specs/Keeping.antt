-- An UPDATE that leaves the rowids, and the values in the columns of the table's indexes (SQL As Understood By SQLite, "UPDATE"; "CREATE INDEX",
-- "Unique Indexes").
use Rattle.std.specs.Prelude.{◌≡◌, ℕ, Bool, true, List, map, slice_get, Option, Ok, Result, ⊤, MatchResult}
use Rattle.std.specs.List.{AllByRecursion, list_any}
use Rattle.sqlval.specs.Refusals.{all_answers}
use Rattle.sqlval.specs.declared.fault.Fault.{Fault}
use Rattle.sqlval.specs.declared.value.Value.{Value}
use Rattle.pages.specs.Calls.{IsOutsideOrFull}
use Rattle.pages.specs.Map.{PageMap}
use Rattle.tree_leaf.specs.Leaf.{Entry}
use Rattle.tree_page.specs.Cells.{Pairwise}
use Rattle.tree_table.specs.Calls.{Stands}
use Rattle.tree_table.specs.declared.changing.RowChange.{RowChange}
use Rattle.catalog.specs.Database.{TableColumn}
use Rattle.catalog.specs.Listed.{as_column, own_column, shape_of, with_rows}
use Rattle.catalog.specs.Rows.{are_rows, as_row}
use Rattle.catalog.specs.declared.tables.Index.{Index}
use Rattle.catalog.specs.declared.tables.Table.{Table}
use Rattle.query_terms.specs.Terms.{Term}
use Rattle.query_terms.specs.Values.{Row}
use Rattle.row_scan.specs.Rows.{IsRow, TableRow}
use Rattle.row_change.specs.Choosing.{chosen_or_all}
use Rattle.row_change.specs.Constraints.{can_be_stored, not_null_holds, with_affinity}
use Rattle.row_change.specs.Demands.{demanded, is_alone}
use Rattle.row_change.specs.Meaning.{AreEnough}
use Rattle.row_change.specs.NewRows.{IsReplacement, IsWritten, entry_left}
use Rattle.row_change.specs.Setting.{keeps_rowids, names_place, row_set, rowid_left, rows_beside, rows_set, rows_set_each, source_set}
use Rattle.row_change.specs.Updating.{AreSetIn}

-- SET names a column of the index
abbrev pub names_column : List (ℕ × Term) → Index → Bool
names_column sets index = list_any (λ column. names_place sets column.place) index.columns

-- and so one of one of the table's indexes
abbrev pub names_key : Table → List (ℕ × Term) → Bool
names_key table sets = list_any (names_column sets) table.indexes

-- the same values stand in the columns of the index
abbrev pub HaveOneKey : List Value → List Value → Index → Type 0
HaveOneKey before after index = AllByRecursion (λ column. slice_get before column.place ≡ slice_get after column.place) index.columns

-- what a row became has its rowid, and its values in the columns of each of the table's indexes
pub record IsKept (table : Table) (row now : TableRow) : Type 0 where
  pub rowid : now.0 ≡ row.0
  pub keys : AllByRecursion (HaveOneKey row.1 now.1) table.indexes

-- Of these rows those for which the condition is true, or all where there is none, become by SET what is kept so, and the changes put the records
-- of that in their places.
pub record AreKeptBy (table : Table) (sets : List (ℕ × Term)) (condition : Option Term) (rows : List TableRow) (changes : List RowChange) : Type 0 where
  pub olds : List TableRow
  pub news : List TableRow
  pub chosen : chosen_or_all condition rows ≡ Ok olds
  pub set : all_answers (map (row_set table sets) olds) ≡ Ok news
  pub kept : Pairwise (IsKept table) olds news
  pub written : Pairwise (IsWritten (own_column table)) news (map entry_left changes)
  pub replaced : AllByRecursion IsReplacement changes

-- so it is of all rows of which these are enough for the condition
abbrev pub KeepsAll : Table → List (ℕ × Term) → Option Term → List Row → List RowChange → Type 0
KeepsAll table sets condition given changes = (rows : List TableRow) → AreEnough condition given rows → AreKeptBy table sets condition rows changes

-- Where a tree has rows of a table, and these changes are those of the rows that are set and kept, it has the rows that SET leaves then; or memory
-- was short, a disk's call failed, or there are as many pages as there may be.
abbrev pub PutsKept : PageMap → PageMap → ℕ → Table → List RowChange → Result ⊤ Fault → Type 0
PutsKept old new size table changes result = (sets : List (ℕ × Term)) (condition : Option Term) (rows : List TableRow) (entries : List Entry) (used free : List ℕ)
    → keeps_rowids table sets ≡ true → Stands old size table.root entries used free → Pairwise (IsRow (shape_of table)) entries rows
    → AreKeptBy table sets condition rows changes
    → MatchResult result (λ done. AreSetIn old new size table.root table sets condition rows used free) IsOutsideOrFull

-- ---- beside UNIQUE indexes

-- no other of the rows has the row's key in a UNIQUE index
abbrev pub IsAloneAmong : Table → List TableRow → TableRow → Type 0
IsAloneAmong table rows row = is_alone table row (rows_beside row.0 rows) ≡ true

-- Where the rows that are set are kept, and each of them was alone, rows are set as they become: each is alone at its turn too.
abbrev pub SetsKeptAsEach : Type 0
SetsKeptAsEach = (table : Table) (sets : List (ℕ × Term)) (condition : Option Term) (rows olds news : List TableRow) → are_rows (with_rows table rows) ≡ true
    → chosen_or_all condition rows ≡ Ok olds → all_answers (map (row_set table sets) olds) ≡ Ok news → Pairwise (IsKept table) olds news
    → AllByRecursion (IsAloneAmong table rows) olds → rows_set table sets condition rows ≡ rows_set_each table sets condition rows

-- ---- one row

-- The columns store the values as they are, and a record can hold them.
pub record AreStoredAsGiven (columns : List TableColumn) (values : List Value) : Type 0 where
  pub stored : with_affinity columns values ≡ Ok values
  pub filled : not_null_holds columns values ≡ true
  pub fit : can_be_stored values ≡ true

-- the change puts the record of a row in its place, which the columns store as it is, and which is as the table demands it
pub record IsChangeTo (table : Table) (row : TableRow) (change : RowChange) : Type 0 where
  pub stored : with_affinity (map as_column table.columns) row.1 ≡ Ok row.1
  pub rowid : rowid_left (own_column table) row.0 row.1 ≡ Ok row.0
  pub demands : demanded table row ≡ Ok row
  pub written : IsWritten (own_column table) row (entry_left change)
  pub replaced : IsReplacement change

-- what a source's row becomes by SET is kept, and the change puts its record in the row's place
pub record IsKeptBy (table : Table) (sets : List (ℕ × Term)) (row : Row) (change : RowChange) : Type 0 where
  pub now : TableRow
  pub answer : source_set table sets row ≡ Ok now
  pub kept : IsKept table (as_row row) now
  pub written : IsWritten (own_column table) now (entry_left change)
  pub replaced : IsReplacement change
