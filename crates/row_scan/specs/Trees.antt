-- The rows of a table's tree.
use Rattle.std.specs.Prelude.{◌≡◌, ◌⊎◌, ℕ, true, List, Result, Ok, Err, IfErr, OnOk, ⊤}
use Rattle.std.specs.List.{list_all}
use Rattle.sqlval.specs.Conversion.{is_word}
use Rattle.sqlval.specs.Faults.{IsOutside}
use Rattle.sqlval.specs.Refusals.{Answer, refusal_of}
use Rattle.sqlval.specs.declared.fault.Fault.{Fault}
use Rattle.tree_leaf.specs.Leaf.{Entry}
use Rattle.pages.specs.Map.{PageMap, AreWhole}
use Rattle.tree_page.specs.Cells.{Pairwise}
use Rattle.tree_table.specs.Tree.{IsTableTree}
use Rattle.catalog.specs.Listed.{shape_of, with_rows}
use Rattle.catalog.specs.Rows.{are_rows, is_value}
use Rattle.catalog.specs.declared.tables.RowShape.{RowShape}
use Rattle.catalog.specs.declared.tables.Table.{Table}
use Rattle.row_scan.specs.Rows.{IsRow, TableRow}

-- the tree under this root has these rows of a shape, by rising rowid
pub record HasRows (map : PageMap) (size root : ℕ) (shape : RowShape) (rows : List TableRow) : Type 0 where
  pub entries : List Entry
  pub used : List ℕ
  pub tree : IsTableTree map size root entries used
  pub each : Pairwise (IsRow shape) entries rows

-- what a call answered, seen by `view`, is the answer, or its refusal; or memory was short, or a disk's call failed
abbrev pub AnswersOrFails : {X A : Type 0} → (X → A) → Answer A → Result X Fault → Type 0
AnswersOrFails view answer (Ok x) = answer ≡ Ok (view x)
AnswersOrFails view answer (Err fault) = IsOutside fault ⊎ (answer ≡ Err (refusal_of fault))

-- ---- rows that a table may hold

-- the rows are such as a table whose rows have this shape may hold
abbrev pub AreFitRows : RowShape → List TableRow → Type 0
AreFitRows shape rows = (t : Table) → shape ≡ shape_of t → are_rows (with_rows t rows) ≡ true

-- The entries are rows of a shape, such as a table whose rows have it may hold.
pub record HoldsFit (entries : List Entry) (shape : RowShape) : Type 0 where
  pub rows : List TableRow
  pub each : Pairwise (IsRow shape) entries rows
  pub fit : AreFitRows shape rows

-- The entry is this row, whose rowid has 64 bits, and each of whose values can be stored.
pub record IsFitRow (shape : RowShape) (entry : Entry) (row : TableRow) : Type 0 where
  pub is : IsRow shape entry row
  pub word : is_word row.0 ≡ true
  pub values : list_all is_value row.1 ≡ true

-- where the check of a tree passed, its entries are rows that a table whose rows have this shape may hold
abbrev pub FindsFit : PageMap → ℕ → ℕ → RowShape → Result ⊤ Fault → Type 0
FindsFit map size root shape result = (entries : List Entry) (used : List ℕ) → AreWhole size map → IsTableTree map size root entries used
    → OnOk result (HoldsFit entries shape)

-- a tree of rows that such a table may hold passes; or memory was short, or a disk's call failed
abbrev pub PassesFit : PageMap → ℕ → ℕ → RowShape → Result ⊤ Fault → Type 0
PassesFit map size root shape result = (rows : List TableRow) → AreWhole size map → HasRows map size root shape rows → AreFitRows shape rows
    → IfErr result IsOutside
