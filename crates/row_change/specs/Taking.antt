-- What DELETE does to the tree of a table (SQL As Understood By SQLite, "DELETE").
use Rattle.std.specs.Prelude.{◌≡◌, ◌⊎◌, ℕ, ℤ, List, [], ◌∷◌, Some, Ok, Err, Result, MatchResult, ⊤}
use Rattle.sqlval.specs.Refusals.{refusal_of}
use Rattle.sqlval.specs.declared.fault.Fault.{Fault}
use Rattle.tree_leaf.specs.Leaf.{Entry}
use Rattle.pages.specs.Calls.{IsOutsideOrFull}
use Rattle.pages.specs.Map.{PageMap}
use Rattle.tree_page.specs.Cells.{Pairwise}
use Rattle.tree_table.specs.Calls.{Stands, BecomesRows}
use Rattle.tree_table.specs.Rows.{without_row}
use Rattle.query_names.specs.declared.queries.BoundSource.{BoundSource}
use Rattle.query_terms.specs.Terms.{Term}
use Rattle.query_terms.specs.Values.{Row}
use Rattle.row_scan.specs.Rows.{IsRow, TableRow}
use Rattle.row_change.specs.Choosing.{chosen, rows_left}
use Rattle.row_change.specs.Meaning.{AreEnough}

-- the rows without those of these rowids
abbrev pub without_rows : List ℤ → List Entry → List Entry
without_rows [] rows = rows
without_rows (rowid ∷ rowids) rows = without_rows rowids (without_row rowid rows)

-- Where a tree stands, its rows become what is made of them; or memory was short, a disk's call failed, or there are as many pages as
-- there may be.
abbrev pub MakesRows : PageMap → PageMap → ℕ → ℕ → (List Entry → List Entry) → Result ⊤ Fault → Type 0
MakesRows old new size root edit result = (rows : List Entry) (used free : List ℕ) → Stands old size root rows used free
    → MatchResult result (λ done. BecomesRows old new size root (edit rows) used free) IsOutsideOrFull

-- The tree has the rows that the condition leaves.
pub record AreTakenOut (old new : PageMap) (size : ℕ) (table : BoundSource) (condition : Term) (rows : List TableRow) (used free : List ℕ) : Type 0 where
  pub left : List TableRow
  pub answer : rows_left condition rows ≡ Ok left
  pub entries : List Entry
  pub becomes : BecomesRows old new size table.root entries used free
  pub each : Pairwise (IsRow table.shape) entries left

-- Why rows aren't taken out: memory was short, a disk's call failed, or there are as many pages as there may be; or the condition is
-- refused for a row.
abbrev pub IsTakeRefusal : Term → List TableRow → Fault → Type 0
IsTakeRefusal condition rows f = IsOutsideOrFull f ⊎ (rows_left condition rows ≡ Err (refusal_of f))

-- Where a tree has rows of a table, of which these are enough for the condition, those for which it is true are taken out of the tree, or the
-- call is refused.
abbrev pub TakesRows : PageMap → PageMap → ℕ → BoundSource → Term → List Row → Result ⊤ Fault → Type 0
TakesRows old new size table condition given result = (rows : List TableRow) (entries : List Entry) (used free : List ℕ)
    → Stands old size table.root entries used free → Pairwise (IsRow table.shape) entries rows → AreEnough (Some condition) given rows
    → MatchResult result (λ done. AreTakenOut old new size table condition rows used free) (IsTakeRefusal condition rows)

-- Where a tree has rows of a table, and these are the rows for which a condition is true, they are taken out of the tree; or memory was
-- short, a disk's call failed, or there are as many pages as there may be.
abbrev pub TakesThese : PageMap → PageMap → ℕ → BoundSource → List TableRow → Result ⊤ Fault → Type 0
TakesThese old new size table gone result = (condition : Term) (rows : List TableRow) (entries : List Entry) (used free : List ℕ)
    → Stands old size table.root entries used free → Pairwise (IsRow table.shape) entries rows → chosen condition rows ≡ Ok gone
    → MatchResult result (λ done. AreTakenOut old new size table condition rows used free) IsOutsideOrFull
