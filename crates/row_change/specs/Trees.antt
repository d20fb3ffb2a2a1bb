-- What INSERT does to the tree of a table (SQL As Understood By SQLite, "INSERT").
use Rattle.std.specs.Prelude.{◌≡◌, ◌⊎◌, ℕ, ℤ, true, List, Option, Ok, Err, Result, MatchResult}
use Rattle.std.specs.FinMap.Entries.{put}
use Rattle.std.specs.Ordering.{int_cmp}
use Rattle.sqlval.specs.Refusals.{Answer, ◌then◌, refusal_of}
use Rattle.sqlval.specs.declared.fault.Fault.{Fault}
use Rattle.sqlval.specs.declared.value.Value.{Value}
use Rattle.tree_leaf.specs.Leaf.{Entry}
use Rattle.pages.specs.Calls.{IsOutsideOrFull}
use Rattle.pages.specs.Map.{PageMap}
use Rattle.tree_page.specs.Cells.{Pairwise}
use Rattle.tree_table.specs.Calls.{Stands, BecomesRows}
use Rattle.catalog.specs.Listed.{shape_of, with_rows}
use Rattle.catalog.specs.Rows.{are_rows}
use Rattle.catalog.specs.declared.tables.Table.{Table}
use Rattle.catalog.specs.declared.tables.TableRow as stored
use Rattle.row_scan.specs.Rows.{IsRow, TableRow}
use Rattle.row_change.specs.Giving.{Serves}
use Rattle.row_change.specs.Inserting.{last_rowid, row_added}
use Rattle.row_change.specs.Demands.{with_own_rowid}
use Rattle.row_change.specs.NewRows.{row_of}

-- where the table may hold the rows, it may hold what became of them
abbrev pub FitNow : Table → List TableRow → List TableRow → Type 0
FitNow table rows now = are_rows (with_rows table rows) ≡ true → are_rows (with_rows table now) ≡ true

-- the row that a row given becomes beside those of the table, where none has its rowid
abbrev pub row_put : Table → List (Option ℕ) → List TableRow → List Value → Answer TableRow
row_put table places rows given = row_added table places (last_rowid rows) given then λ row. with_own_rowid rows row

-- The row that a row given becomes was put into the tree, among its own.
pub record IsPutIn (old new : PageMap) (size root : ℕ) (table : Table) (places : List (Option ℕ)) (given : List Value) (rows : List TableRow) (used free : List ℕ) (row : TableRow) : Type 0 where
  pub answer : row_put table places rows given ≡ Ok row
  pub entries : List Entry
  pub becomes : BecomesRows old new size root entries used free
  pub each : Pairwise (IsRow (shape_of table)) entries (put int_cmp row.0 row.1 rows)
  pub fit : FitNow table rows (put int_cmp row.0 row.1 rows)

-- Where a tree has rows of a table, and this serves as the last rowid, the row that a row given becomes is put into it, or the call is refused.
abbrev pub PutsRow : PageMap → PageMap → ℕ → ℕ → Table → List (Option ℕ) → List Value → Option ℤ → Result stored.TableRow Fault → Type 0
PutsRow old new size root table places given last result = (rows : List TableRow) (entries : List Entry) (used free : List ℕ)
    → Stands old size root entries used free → Pairwise (IsRow (shape_of table)) entries rows → Serves table places given last rows
    → MatchResult result (λ row. IsPutIn old new size root table places given rows used free (row_of row))
    (λ f. IsOutsideOrFull f ⊎ (row_put table places rows given ≡ Err (refusal_of f)))
