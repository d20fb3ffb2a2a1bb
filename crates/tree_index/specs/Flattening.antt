-- How an index's tree is built anew over its leaves.
use Rattle.std.specs.Prelude.{◌≡◌, ◌≤◌, ◌<◌, ◌+◌, ◌*◌, ◌^◌, ℕ, suc, Bool, List, [], ◌∷◌, ◌++◌, length, map, ⊤, Result, MatchResult}
use Rattle.std.specs.List.{flat_map}
use Rattle.sqlval.specs.Faults.{IsOutside}
use Rattle.sqlval.specs.PageSizes.{IsPageSize}
use Rattle.sqlval.specs.declared.collation.Collation.{Collation}
use Rattle.sqlval.specs.declared.fault.Fault.{Fault}
use Rattle.sqlval.specs.declared.fault.Fault.TheVariants.{Memory}
use Rattle.pages.specs.Calls.{IsOutsideOrFull}
use Rattle.pages.specs.Counting.{occurs, Moves}
use Rattle.pages.specs.Map.{PageMap, AreWhole, Has}
use Rattle.freelist.specs.Calls.{AreFree, KeepsHeader}
use Rattle.tree_page.specs.Cells.{Pairwise}
use Rattle.tree_page.specs.Node.{Local, Between, IsBetweenCell}
use Rattle.tree_pack.specs.declared.spreading.Packed.{Packed}
use Rattle.tree_store.specs.Saying.{Says}
use Rattle.tree_store.specs.Sides.{Side, Each, children, each_of}
use Rattle.tree_store.specs.Storing.{cells_of}
use Rattle.tree_store.specs.declared.storing.Fan.{Fan}
use Rattle.tree_index.specs.Calls.{Stands, BecomesEntries}
use Rattle.tree_index.specs.Entries.{Entry, AreEntries}
use Rattle.tree_index.specs.Freeing.{StandsUnder, below_of}
use Rattle.tree_index.specs.Growing.{IsDeep, IsPlanned, IsPut, entries_in}
use Rattle.tree_index.specs.Tree.{Held, IsKidAs, Tree, top, entries_of, pages_of, Lies}

-- ---- the children of pages side by side

-- cells that say these children stand after others
abbrev pub AreAdded : ℕ → List (List ℕ) → List (List ℕ) → List (ℕ × Local) → Type 0
AreAdded size before after kids = (cells : List (List ℕ)) × (after ≡ before ++ cells) × Pairwise (IsBetweenCell size) cells kids

-- where the page is an interior one, its cells were added, and its last child was found; or memory was short, or a disk's call failed
abbrev pub ReadsCells : PageMap → ℕ → ℕ → List (List ℕ) → List (List ℕ) → Result ℕ Fault → Type 0
ReadsCells map size number before after result = (kids : List (ℕ × Local)) (last : ℕ) → AreWhole size map → Says map number (Between kids last)
    → MatchResult result (λ child. (child ≡ last) × AreAdded size before after kids) IsOutside

-- The cell leads to a page with these children, and has this entry.
pub record LeadsTo (map : PageMap) (size : ℕ) (cell : List ℕ) (side : Side ℕ Local × Local) : Type 0 where
  pub number : ℕ
  pub cell_is : IsBetweenCell size cell (number, side.1)
  pub says : Says map number (Between side.0.0 side.0.1)

-- the children of all pages, those of one after the other; the last child of each takes the entry after its page
abbrev pub all_kids : List (Side ℕ Local × Local) → List (ℕ × Local)
all_kids sides = flat_map (λ side. side.0.0 ++ (side.0.1, side.1) ∷ []) sides

-- where a cell leads to a page, cells for the page's children were added; or memory was short, or a disk's call failed
abbrev pub ReadsKid : PageMap → ℕ → List ℕ → List (List ℕ) → List (List ℕ) → Result ⊤ Fault → Type 0
ReadsKid map size cell before after result = (side : Side ℕ Local × Local) → AreWhole size map → LeadsTo map size cell side
    → MatchResult result (λ done. AreAdded size before after (side.0.0 ++ (side.0.1, side.1) ∷ [])) IsOutside

-- where cells lead to pages, cells for the children of all were added; or memory was short, or a disk's call failed
abbrev pub ReadsKids : PageMap → ℕ → List (List ℕ) → List (List ℕ) → List (List ℕ) → Result ⊤ Fault → Type 0
ReadsKids map size cells before after result = (sides : List (Side ℕ Local × Local)) → AreWhole size map
    → Pairwise (LeadsTo map size) cells sides → MatchResult result (λ done. AreAdded size before after (all_kids sides)) IsOutside

-- the fan is one of these children
pub record IsFanOf (size : ℕ) (kids : List (ℕ × Local)) (last : ℕ) (fan : Fan) : Type 0 where
  pub cells : Pairwise (IsBetweenCell size) (cells_of fan) kids
  pub last_is : fan.last ≡ last
  pub near : last < 2 ^ 32

-- where a fan's cells and its last child lead to pages, a fan of the children of all was made; or memory was short, or a disk's call failed
abbrev pub ReadsBelow : PageMap → ℕ → Fan → Result Fan Fault → Type 0
ReadsBelow map size fan result = (sides : List (Side ℕ Local × Local)) (side : Side ℕ Local) → AreWhole size map
    → Pairwise (LeadsTo map size) (cells_of fan) sides → Says map fan.last (Between side.0 side.1)
    → MatchResult result (IsFanOf size (all_kids sides ++ side.0) side.1) IsOutside

-- the numbers of a fan's pages were found; or memory was short
abbrev pub Numbers : {T : Type 0} → (T → List ℕ) → Fan → Result T Fault → Type 0
Numbers view fan result = (size : ℕ) (kids : List (ℕ × Local)) → Pairwise (IsBetweenCell size) (cells_of fan) kids
    → MatchResult result (λ x. view x ≡ map (λ kid. kid.0) kids ++ fan.last ∷ []) (λ fault. fault ≡ Memory)

-- ---- subtrees in a row

-- Subtrees of this depth stand in a row, with an entry between each two, and the fan is theirs. Each of their pages is used once; it is
-- neither free nor page 1.
pub record AreInRow (map : PageMap) (size depth : ℕ) (entries : List Entry) (used free : List ℕ) (fan : Fan) : Type 0 where
  pub kids : List (Tree depth × Held)
  pub last : Tree depth
  pub said : List (ℕ × Local)
  pub fan_is : IsFanOf size said (top depth last) fan
  pub shown : Pairwise (IsKidAs map size) said (children (top depth) kids)
  pub lies : Each (Lies map size depth) kids last
  pub entries_are : entries_in depth kids last ≡ entries
  pub used_are : each_of (pages_of depth) (λ held. held.pages) kids last ≡ used
  pub apart : (n : ℕ) → occurs n used + occurs n free ≤ 1
  pub first : occurs 1 used ≡ 0
  pub free_are : AreFree map size free
  pub sized : IsPageSize size

-- Subtrees of this depth and with these entries stand in a row now. They and the freelist share the pages that were used and free and those
-- that were added.
pub record BecomeRow (old new : PageMap) (size depth : ℕ) (entries : List Entry) (used free : List ℕ) (fan : Fan) : Type 0 where
  pub now_used : List ℕ
  pub now_free : List ℕ
  pub row : AreInRow new size depth entries now_used now_free fan
  pub moves : Moves old new used free now_used now_free
  pub header : KeepsHeader old new

-- where subtrees stand in a row, their children do then; or memory was short, or a disk's call failed
abbrev pub Opens : PageMap → PageMap → ℕ → Fan → Result Fan Fault → Type 0
Opens old new size fan result = (depth : ℕ) (entries : List Entry) (used free : List ℕ) → AreInRow old size (suc depth) entries used free fan
    → MatchResult result (BecomeRow old new size depth entries used free) IsOutside

-- where subtrees stand in a row and aren't deeper, their leaves do then; or memory was short, or a disk's call failed
abbrev pub FindsLeaves : PageMap → PageMap → ℕ → Fan → ℕ → Result Fan Fault → Type 0
FindsLeaves old new size fan ways result = (depth : ℕ) (entries : List Entry) (used free : List ℕ) → AreInRow old size depth entries used free fan
    → depth ≤ ways → MatchResult result (BecomeRow old new size 0 entries used free) IsOutside

-- where subtrees stand in a row, at most a fourth as many deeper ones do then, except for the last; or memory was short, a disk's call failed,
-- or there are as many pages as there may be
abbrev pub Gathers : PageMap → PageMap → ℕ → Fan → Result Fan Fault → Type 0
Gathers old new size fan result = (depth : ℕ) (entries : List Entry) (used free : List ℕ) → AreInRow old size depth entries used free fan
    → MatchResult result
    (λ above. BecomeRow old new size (suc depth) entries used free above × (4 * length (cells_of above) ≤ length (cells_of fan))) IsOutsideOrFull

-- ---- a tree that is built

-- The tree under this root has these entries now, and at most so many interior pages above each leaf. The pages below the root and the free
-- ones were these.
pub record IsBuilt (old new : PageMap) (size root most : ℕ) (entries : List Entry) (used free : List ℕ) : Type 0 where
  pub depth : ℕ
  pub shallow : depth ≤ most
  pub put : IsPut old new size root depth entries (root ∷ used) free

-- where subtrees stand in a row, and not too many, a tree is built over them with at most so many levels between; or memory was short, a
-- disk's call failed, or there are as many pages as there may be
abbrev pub BuildsOver : PageMap → PageMap → ℕ → ℕ → Fan → ℕ → Result ⊤ Fault → Type 0
BuildsOver old new size root fan levels result = (depth : ℕ) (entries : List Entry) (used free : List ℕ)
    → AreInRow old size depth entries used free fan → Has old root → 1 < root → occurs root used + occurs root free ≡ 0
    → length (cells_of fan) < 4 ^ suc levels
    → MatchResult result (λ done. IsBuilt old new size root (depth + suc levels) entries used free) IsOutsideOrFull

-- where a tree with at most 21 pages on a way stands under a root, one with the same entries and at most 17 does then; or memory was short, a
-- disk's call failed, or there are as many pages as there may be
abbrev pub Flattens : PageMap → PageMap → ℕ → ℕ → Result ⊤ Fault → Type 0
Flattens old new size root result = (depth : ℕ) (t : Tree (suc depth)) (free : List ℕ) → StandsUnder old size root 20 (suc depth) t free
    → IsPageSize size
    → MatchResult result (λ done. IsBuilt old new size root 16 (entries_of (suc depth) t) (below_of (suc depth) t) free) IsOutsideOrFull

-- where packed pages have to take the place of a tree's root, a tree of their entries stands under it then; or memory was short, a disk's call
-- failed, or there are as many pages as there may be
abbrev pub StoresTop : PageMap → PageMap → ℕ → ℕ → Packed → Bool → Result ⊤ Fault → Type 0
StoresTop mid new size root packed deep result =
    (old : PageMap) (columns : List Collation) (entries all : List Entry) (used free : List ℕ) (is : Stands old size root columns entries used free)
    → AreEntries columns all → IsDeep 19 is.tree.depth deep
    → IsPlanned old mid size is.tree.depth all (below_of is.tree.depth is.tree.tree) free packed
    → MatchResult result (λ done. BecomesEntries old new size root columns all used free) IsOutsideOrFull
