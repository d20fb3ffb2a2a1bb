-- What follows for a table's tree.
use Rattle.std.specs.Prelude.{◌≡◌, ℕ, List}
use Rattle.tree_leaf.specs.Leaf.{Entry}
use Rattle.pages.specs.Map.{PageMap}
use Rattle.tree_store.specs.Staying.{AreKept}
use Rattle.tree_table.specs.Tree.{IsTableTree}

-- a tree stays, as deep as it was, where what trees see of its pages stays
abbrev pub TreesStay : Type 0
TreesStay = (old new : PageMap) (size root : ℕ) (rows : List Entry) (used : List ℕ) → AreKept old new size used
    → (tree : IsTableTree old size root rows used) → (now : IsTableTree new size root rows used) × (now.depth ≡ tree.depth)

-- under one root there is one tree: one list of rows, on the same pages
abbrev pub OneTree : Type 0
OneTree = (map : PageMap) (size root : ℕ) (rows others : List Entry) (used other_used : List ℕ)
    → IsTableTree map size root rows used → IsTableTree map size root others other_used → (rows ≡ others) × (used ≡ other_used)
