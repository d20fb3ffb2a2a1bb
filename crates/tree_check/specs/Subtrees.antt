-- Subtrees under a page, and what the pages of a table's tree say.
use Rattle.std.specs.Prelude.{◌≡◌, ◌<◌, ℕ, zero, suc, ℤ, ◌<ℤ◌, ◌≤ℤ◌, List, [], ◌∷◌, length, map, Option, Some, None, Result, Ok, Err, MatchResult}
use Rattle.sqlval.specs.declared.fault.Fault.{Fault}
use Rattle.sqlval.specs.Faults.{IsOutside}
use Rattle.pages.specs.Map.{PageMap, page_at}
use Rattle.pages.specs.Counting.{start_of}
use Rattle.tree_page.specs.Node.{Local, Node, Rows, Keys, Entries, Between, IsNode}
use Rattle.tree_page.specs.Reading.{key_of}
use Rattle.tree_page.specs.declared.items.Key.{Key}
use Rattle.tree_store.specs.Saying.{Says}
use Rattle.tree_store.specs.Sides.{Side, Each, Parted, children, each_of, nothing}
use Rattle.tree_table.specs.Tree.{Tree, top, pages_of, IsSorted, Lies}
use Rattle.tree_check.specs.Tails.{AreTails}
use Rattle.tree_check.specs.declared.chains.Tail.{Tail}
use Rattle.tree_check.specs.declared.branches.Kids.{Kids}

-- The tree lies under this page, with its rowids between these bounds.
pub record IsSubtree (map : PageMap) (size page depth : ℕ) (low high : ℤ) (t : Tree depth) : Type 0 where
  pub top_is : top depth t ≡ page
  pub lies : Lies map size depth t
  pub sorted : IsSorted depth low t high

-- The trees lie under these pages, parted by the keys.
pub record AreSubtrees (map : PageMap) (size : ℕ) (kids : List (ℕ × ℤ)) (last depth : ℕ) (low high : ℤ)
    (side : Side (Tree depth) ℤ) : Type 0 where
  pub kids_are : children (top depth) side.0 ≡ kids
  pub last_is : top depth side.1 ≡ last
  pub lies : Each (Lies map size depth) side.0 side.1
  pub sorted : Parted (IsSorted depth) low side.0 side.1 high

-- the pages of trees that stand side by side
abbrev pub pages_beside : (depth : ℕ) → Side (Tree depth) ℤ → List ℕ
pages_beside depth side = each_of (pages_of depth) nothing side.0 side.1

-- the children with their keys
abbrev pub keys_in : List Key → List (ℕ × ℤ)
keys_in keys = map key_of keys

-- ---- one page

-- the rowids that a leaf says rise, above `low` and up to `high`
abbrev pub RisesAs : ℤ → List (ℤ × Local) → ℤ → Type 0
RisesAs low [] high = low ≤ℤ high
RisesAs low (row ∷ rows) high = (low <ℤ row.0) × RisesAs row.0 rows high

-- The bytes are a leaf whose rowids rise, and whose payloads go on so.
pub record IsLeafWith (bytes : List ℕ) (start : ℕ) (low high : ℤ) (tails : List Tail) : Type 0 where
  pub said : List (ℤ × Local)
  pub node_is : IsNode bytes start (Rows said)
  pub rises : RisesAs low said high
  pub tails_are : AreTails (length bytes) said tails

-- The bytes are an interior page of these children.
abbrev pub IsBranchOf : List ℕ → ℕ → Kids → Type 0
IsBranchOf bytes start kids = IsNode bytes start (Keys (keys_in kids.keys.items) kids.last)

-- where the call answered, the page is such a leaf; where it is one, memory was short, or a disk's call failed
abbrev pub ReadsLeaf : {X : Type 0} → (X → List Tail) → PageMap → ℕ → ℤ → ℤ → Result X Fault → Type 0
ReadsLeaf view map page low high (Ok x) = IsLeafWith (page_at map page) (start_of page) low high (view x)
ReadsLeaf view map page low high (Err fault) =
    (said : List (ℤ × Local)) → Says map page (Rows said) → RisesAs low said high → IsOutside fault

-- where the call answered, the page is an interior page of these children; where it is one, memory was short, or a disk's call failed
abbrev pub ReadsBranch : PageMap → ℕ → Result Kids Fault → Type 0
ReadsBranch map page (Ok kids) = IsBranchOf (page_at map page) (start_of page) kids
ReadsBranch map page (Err fault) = (kids : List (ℕ × ℤ)) (last : ℕ) → Says map page (Keys kids last) → IsOutside fault

-- ---- the left edge

-- the first child of a tree's page, and none of a leaf
abbrev pub first_child : Node → Option ℕ
first_child (Rows rows) = None
first_child (Keys [] last) = Some last
first_child (Keys (kid ∷ kids) last) = Some kid.0
first_child (Entries entries) = None
first_child (Between [] last) = Some last
first_child (Between (kid ∷ kids) last) = Some kid.0

-- under the page stands a leaf, after so many interior pages down the left edge
abbrev pub IsLeftEdge : PageMap → ℕ → ℕ → Type 0
IsLeftEdge map page zero = (node : Node) × Says map page node × (first_child node ≡ None)
IsLeftEdge map page (suc depth) = (node : Node) × (child : ℕ) × Says map page node × (first_child node ≡ Some child) × IsLeftEdge map child depth

-- the first child of a page was found; or memory was short, or a disk's call failed
abbrev pub FindsLeft : PageMap → ℕ → Result (Option ℕ) Fault → Type 0
FindsLeft map page result = (node : Node) → Says map page node → MatchResult result (λ left. left ≡ first_child node) IsOutside

-- it was found after how many interior pages a leaf stands; or memory was short, or a disk's call failed
abbrev pub FindsDepth : PageMap → ℕ → Result ℕ Fault → Type 0
FindsDepth map page result = (depth : ℕ) → depth < 20 → IsLeftEdge map page depth → MatchResult result (λ d. d ≡ depth) IsOutside
