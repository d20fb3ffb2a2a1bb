-- A table's tree that is one page: a leaf (Database File Format, "B-tree Pages").
use Rattle.std.specs.Prelude.{◌<◌, ℕ, zero, ◌≤◌, ◌-◌, ◌<ℤ◌, List, [], ◌∷◌, length, slice_index_or}
use Rattle.sqlval.specs.declared.fault.Fault.{Fault}
use Rattle.sqlval.specs.declared.fault.Fault.TheVariants.{Damaged}
use Rattle.tree_leaf.specs.Leaf.{Entry, IsTableLeaf}
use Rattle.pages.specs.Map.{PageMap, page_at, Has}
use Rattle.pages.specs.Counting.{start_of}
use Rattle.tree_table.specs.Tree.{IsTableTree}

-- each row's number is greater than that of the row before it
abbrev pub AreRising : List Entry → Type 0
AreRising rows = (i : ℕ) (d : Entry) → 1 ≤ i → i < length rows → (slice_index_or rows (i - 1) d).rowid <ℤ (slice_index_or rows i d).rowid

-- the page of this number is a leaf of these rows, by rising rowid
pub record IsSingleLeaf (page : List ℕ) (number : ℕ) (rows : List Entry) : Type 0 where
  pub leaf : IsTableLeaf page (start_of number) rows
  pub rising : AreRising rows

-- the fault with this page's number, where it has none yet
abbrev pub placed : ℕ → Fault → Fault
placed number (Damaged damage zero) = Damaged damage number
placed number fault = fault

-- such a page is a whole tree, its own root
abbrev pub IsOwnTree : Type 0
IsOwnTree = (pages : PageMap) (number : ℕ) (rows : List Entry) → Has pages number → IsSingleLeaf (page_at pages number) number rows
    → IsTableTree pages (length (page_at pages number)) number rows (number ∷ [])
