-- How a table's tree is built anew over its leaves.
use Rattle.std.specs.Prelude.{◌≡◌, ◌≤◌, ◌<◌, ◌+◌, ◌*◌, ◌^◌, ℕ, suc, ℤ, Bool}
use Rattle.std.specs.Prelude.{List, [], ◌∷◌, ◌++◌, length, map, ⊤, Result, MatchResult}
use Rattle.std.specs.List.{flat_map}
use Rattle.sqlval.specs.Faults.{IsOutside}
use Rattle.sqlval.specs.PageSizes.{IsPageSize}
use Rattle.sqlval.specs.declared.fault.Fault.{Fault}
use Rattle.sqlval.specs.declared.fault.Fault.TheVariants.{Memory}
use Rattle.tree_leaf.specs.Leaf.{Entry}
use Rattle.pages.specs.Calls.{IsOutsideOrFull}
use Rattle.pages.specs.Counting.{occurs, Moves}
use Rattle.pages.specs.Map.{PageMap, AreWhole, Has}
use Rattle.freelist.specs.Calls.{AreFree, KeepsHeader}
use Rattle.tree_page.specs.Cells.{Pairwise}
use Rattle.tree_page.specs.Node.{Keys, IsKeyCell}
use Rattle.tree_pack.specs.declared.spreading.Packed.{Packed}
use Rattle.tree_store.specs.Saying.{Says}
use Rattle.tree_store.specs.Sides.{Side, Each, Parted, children, each_of, nothing}
use Rattle.tree_store.specs.Storing.{cells_of}
use Rattle.tree_store.specs.declared.storing.Fan.{Fan}
use Rattle.tree_table.specs.Calls.{Stands, BecomesRows}
use Rattle.tree_table.specs.Freeing.{StandsUnder}
use Rattle.tree_table.specs.Growing.{below_of, IsUnder, IsDeep, IsPlanned, IsPut}
use Rattle.tree_table.specs.Tree.{Tree, top, rows_of, pages_of, IsSorted, Lies}

-- ---- the children of pages side by side

-- where the page is an interior one, its cells stand after others, and its last child was found; or memory was short, or a disk's call
-- failed
abbrev pub ReadsCells : PageMap → ℕ → ℕ → List (List ℕ) → List (List ℕ) → Result ℕ Fault → Type 0
ReadsCells map size number before after result = (kids : List (ℕ × ℤ)) (last : ℕ) → AreWhole size map
    → (is : Says map number (Keys kids last))
    → MatchResult result (λ child. (child ≡ last) × (after ≡ before ++ is.node_is.cells)) IsOutside

-- The cell leads to a page with these children, and has this key.
pub record LeadsTo (map : PageMap) (cell : List ℕ) (side : Side ℕ ℤ × ℤ) : Type 0 where
  pub number : ℕ
  pub cell_is : IsKeyCell cell (number, side.1)
  pub says : Says map number (Keys side.0.0 side.0.1)

-- the children of all pages, those of one after the other; the last child of each takes the key after its page
abbrev pub all_kids : List (Side ℕ ℤ × ℤ) → List (ℕ × ℤ)
all_kids sides = flat_map (λ side. side.0.0 ++ (side.0.1, side.1) ∷ []) sides

-- cells that say these children stand after others
abbrev pub AreAdded : List (List ℕ) → List (List ℕ) → List (ℕ × ℤ) → Type 0
AreAdded before after kids = (cells : List (List ℕ)) × (after ≡ before ++ cells) × Pairwise IsKeyCell cells kids

-- where a cell leads to a page, cells for the page's children were added; or memory was short, or a disk's call failed
abbrev pub ReadsKid : PageMap → ℕ → List ℕ → List (List ℕ) → List (List ℕ) → Result ⊤ Fault → Type 0
ReadsKid map size cell before after result = (side : Side ℕ ℤ × ℤ) → AreWhole size map → LeadsTo map cell side
    → MatchResult result (λ done. AreAdded before after (side.0.0 ++ (side.0.1, side.1) ∷ [])) IsOutside

-- where cells lead to pages, cells for the children of all were added; or memory was short, or a disk's call failed
abbrev pub ReadsKids : PageMap → ℕ → List (List ℕ) → List (List ℕ) → List (List ℕ) → Result ⊤ Fault → Type 0
ReadsKids map size cells before after result = (sides : List (Side ℕ ℤ × ℤ)) → AreWhole size map → Pairwise (LeadsTo map) cells sides
    → MatchResult result (λ done. AreAdded before after (all_kids sides)) IsOutside

-- the fan is one of these children
pub record IsFanOf (kids : List (ℕ × ℤ)) (last : ℕ) (fan : Fan) : Type 0 where
  pub cells : Pairwise IsKeyCell (cells_of fan) kids
  pub last_is : fan.last ≡ last
  pub near : last < 2 ^ 32

-- where a fan's cells and its last child lead to pages, a fan of the children of all was made; or memory was short, or a disk's call failed
abbrev pub ReadsBelow : PageMap → ℕ → Fan → Result Fan Fault → Type 0
ReadsBelow map size fan result = (sides : List (Side ℕ ℤ × ℤ)) (side : Side ℕ ℤ) → AreWhole size map
    → Pairwise (LeadsTo map) (cells_of fan) sides
    → Says map fan.last (Keys side.0 side.1) → MatchResult result (IsFanOf (all_kids sides ++ side.0) side.1) IsOutside

-- the numbers of a fan's pages were found; or memory was short
abbrev pub Numbers : {T : Type 0} → (T → List ℕ) → Fan → Result T Fault → Type 0
Numbers view fan result = (kids : List (ℕ × ℤ)) → Pairwise IsKeyCell (cells_of fan) kids
    → MatchResult result (λ x. view x ≡ map (λ kid. kid.0) kids ++ fan.last ∷ []) (λ fault. fault ≡ Memory)

-- ---- subtrees side by side

-- Subtrees of this depth stand side by side, and the fan is theirs. Their rowids rise within these bounds. Each of their pages is used
-- once; it is neither free nor page 1.
pub record AreBeside (map : PageMap) (size depth : ℕ) (low high : ℤ) (rows : List Entry) (used free : List ℕ) (fan : Fan)
    : Type 0 where
  pub kids : List (Tree depth × ℤ)
  pub last : Tree depth
  pub fan_is : IsFanOf (children (top depth) kids) (top depth last) fan
  pub lies : Each (Lies map size depth) kids last
  pub sorted : Parted (IsSorted depth) low kids last high
  pub rows_are : each_of (rows_of depth) nothing kids last ≡ rows
  pub used_are : each_of (pages_of depth) nothing kids last ≡ used
  pub apart : (n : ℕ) → occurs n used + occurs n free ≤ 1
  pub first : occurs 1 used ≡ 0
  pub free_are : AreFree map size free
  pub sized : IsPageSize size

-- Subtrees of this depth and with these rows stand side by side now. They and the freelist share the pages that were used and free
-- and those that were added.
pub record BecomeBeside (old new : PageMap) (size depth : ℕ) (low high : ℤ) (rows : List Entry) (used free : List ℕ) (fan : Fan)
    : Type 0 where
  pub now_used : List ℕ
  pub now_free : List ℕ
  pub beside : AreBeside new size depth low high rows now_used now_free fan
  pub moves : Moves old new used free now_used now_free
  pub header : KeepsHeader old new

-- where subtrees stand side by side, their children do then; or memory was short, or a disk's call failed
abbrev pub Opens : PageMap → PageMap → ℕ → Fan → Result Fan Fault → Type 0
Opens old new size fan result = (depth : ℕ) (low high : ℤ) (rows : List Entry) (used free : List ℕ)
    → AreBeside old size (suc depth) low high rows used free fan
    → MatchResult result (BecomeBeside old new size depth low high rows used free) IsOutside

-- where subtrees stand side by side and aren't deeper, their leaves do then; or memory was short, or a disk's call failed
abbrev pub FindsLeaves : PageMap → PageMap → ℕ → Fan → ℕ → Result Fan Fault → Type 0
FindsLeaves old new size fan ways result = (depth : ℕ) (low high : ℤ) (rows : List Entry) (used free : List ℕ)
    → AreBeside old size depth low high rows used free fan
    → depth ≤ ways → MatchResult result (BecomeBeside old new size 0 low high rows used free) IsOutside

-- where subtrees stand side by side, at most a sixteenth as many deeper ones do then; or memory was short, a disk's call failed, or
-- there are as many pages as there may be
abbrev pub Gathers : PageMap → PageMap → ℕ → Fan → Result Fan Fault → Type 0
Gathers old new size fan result = (depth : ℕ) (low high : ℤ) (rows : List Entry) (used free : List ℕ)
    → AreBeside old size depth low high rows used free fan
    → MatchResult result
    (λ above. BecomeBeside old new size (suc depth) low high rows used free above × (16 * length (cells_of above) ≤ length (cells_of fan)))
    IsOutsideOrFull

-- ---- a tree that is built

-- The tree under this root has these rows now, and at most so many interior pages above each leaf. The pages below the root and the free
-- ones were these.
pub record IsBuilt (old new : PageMap) (size root most : ℕ) (low high : ℤ) (rows : List Entry) (used free : List ℕ) : Type 0 where
  pub depth : ℕ
  pub shallow : depth ≤ most
  pub put : IsPut old new size root depth low high rows (root ∷ used) free

-- where subtrees stand side by side, and at most so many, a tree is built over them with at most so many levels between; or memory was
-- short, a disk's call failed, or there are as many pages as there may be
abbrev pub BuildsOver : PageMap → PageMap → ℕ → ℕ → Fan → ℕ → Result ⊤ Fault → Type 0
BuildsOver old new size root fan levels result = (depth : ℕ) (low high : ℤ) (rows : List Entry) (used free : List ℕ)
    → AreBeside old size depth low high rows used free fan
    → Has old root → occurs root used + occurs root free ≡ 0 → length (cells_of fan) ≤ 16 ^ suc levels
    → MatchResult result (λ done. IsBuilt old new size root (depth + suc levels) low high rows used free) IsOutsideOrFull

-- where a tree with at most 21 pages on a way stands under a root, one with the same rows and at most 17 does then; or memory was short, a
-- disk's call failed, or there are as many pages as there may be
abbrev pub Flattens : PageMap → PageMap → ℕ → ℕ → Result ⊤ Fault → Type 0
Flattens old new size root result = (depth : ℕ) (low high : ℤ) (t : Tree (suc depth)) (free : List ℕ)
    → StandsUnder old size root 20 (suc depth) t free
    → IsSorted (suc depth) low t high → IsPageSize size
    → MatchResult result (λ done. IsBuilt old new size root 16 low high (rows_of (suc depth) t) (below_of (suc depth) t) free)
    IsOutsideOrFull

-- where packed pages have to take the place of a tree's root, a tree of their rows stands under it then; or memory was short, a disk's call
-- failed, or there are as many pages as there may be
abbrev pub StoresTop : PageMap → PageMap → ℕ → ℕ → Packed → Bool → Result ⊤ Fault → Type 0
StoresTop mid new size root packed deep result =
    (old : PageMap) (rowid : ℤ) (rows all : List Entry) (used free : List ℕ) (is : Stands old size root rows used free) (low high : ℤ)
    → IsUnder old size root 19 rowid is.tree.depth low is.tree.tree high free → IsDeep 19 is.tree.depth deep
    → IsPlanned old mid size root is.tree.depth low high all (below_of is.tree.depth is.tree.tree) free packed
    → MatchResult result (λ done. BecomesRows old new size root all used free) IsOutsideOrFull
