-- Making a table's tree without rows, and giving the pages of one back.
use Rattle.std.specs.Prelude.{◌≡◌, ◌⊎◌, ◌≤◌, ◌<◌, ◌+◌, ℕ, zero, suc, ℤ, List, [], ◌∷◌, ◌++◌, length, slice_index_or, ⊤, Result, MatchResult}
use Rattle.sqlval.specs.Faults.{IsOutside}
use Rattle.sqlval.specs.PageSizes.{IsPageSize}
use Rattle.sqlval.specs.declared.fault.Fault.{Fault}
use Rattle.tree_leaf.specs.Leaf.{Entry}
use Rattle.pages.specs.Calls.{IsOutsideOrFull}
use Rattle.pages.specs.Counting.{occurs, IsOnce, Moves}
use Rattle.pages.specs.Map.{PageMap, AreWhole}
use Rattle.freelist.specs.Calls.{AreFree, KeepsHeader}
use Rattle.tree_page.specs.Node.{Local, Node, Rows, Keys, Entries, Between}
use Rattle.tree_store.specs.Saying.{Says}
use Rattle.tree_table.specs.Calls.{Stands}
use Rattle.tree_table.specs.Growing.{below_of}
use Rattle.tree_table.specs.Stepping.{child_at}
use Rattle.tree_table.specs.Tree.{Held, IsHeldAs, Leaf, Tree, top, pages_of, Lies}
use Rattle.tree_table.specs.declared.freeing.Parts.{Parts}
use Rattle.tree_table.specs.declared.freeing.Parts.TheVariants.{Cells, Children}

-- ---- a new tree

-- A page was taken that is the root of an empty tree. The file grew only if no page is free.
pub record IsNewTree (old new : PageMap) (size : ℕ) (free : List ℕ) (root : ℕ) : Type 0 where
  pub now_free : List ℕ
  pub after : 1 < root
  pub stands : Stands new size root [] (root ∷ []) now_free
  pub moves : Moves old new [] free (root ∷ []) now_free
  pub header : KeepsHeader old new
  pub rule : (length new ≡ length old) ⊎ (now_free ≡ [])

-- Where these pages are free, a tree without rows is made; or memory was short, a disk's call failed, or there are as many pages as there
-- may be.
abbrev pub MakesTree : PageMap → PageMap → ℕ → Result ℕ Fault → Type 0
MakesTree old new size result = (free : List ℕ) → AreFree old size free → IsPageSize size → MatchResult result (IsNewTree old new size free) IsOutsideOrFull

-- ---- pages that are given back

-- The pages of a tree are free now.
pub record AreGivenBack (old new : PageMap) (size : ℕ) (used free : List ℕ) : Type 0 where
  pub now_free : List ℕ
  pub free_are : AreFree new size now_free
  pub moves : Moves old new used free [] now_free
  pub header : KeepsHeader old new
  pub same : length new ≡ length old

-- Where a tree stands whose root isn't page 1, its pages are free then; or memory was short, or a disk's call failed.
abbrev pub FreesTree : PageMap → PageMap → ℕ → ℕ → Result ⊤ Fault → Type 0
FreesTree old new size root result = (rows : List Entry) (used free : List ℕ) → Stands old size root rows used free → 1 < root
    → MatchResult result (λ done. AreGivenBack old new size used free) IsOutside

-- a tree without rows stands under this root, which is its one page; its other pages are free
pub record IsCleared (old new : PageMap) (size root : ℕ) (used free : List ℕ) : Type 0 where
  pub now_free : List ℕ
  pub stands : Stands new size root [] (root ∷ []) now_free
  pub moves : Moves old new used free (root ∷ []) now_free
  pub header : KeepsHeader old new
  pub same : length new ≡ length old

-- Where a tree stands, it has no rows then, and its root is its one page; or memory was short, or a disk's call failed.
abbrev pub ClearsTree : PageMap → PageMap → ℕ → ℕ → Result ⊤ Fault → Type 0
ClearsTree old new size root result = (rows : List Entry) (used free : List ℕ) → Stands old size root rows used free
    → MatchResult result (λ done. IsCleared old new size root used free) IsOutside

-- ---- a page

-- how many rows a leaf has, or how many children an interior page
abbrev pub parts_for : Node → Parts
parts_for (Rows rows) = Cells (length rows)
parts_for (Keys kids last) = Children (suc (length kids))
parts_for (Entries entries) = Cells 0
parts_for (Between kids last) = Cells 0

-- a page says rows of a table, or children
abbrev pub IsOfTable : Node → Type 0
IsOfTable (Rows rows) = ⊤
IsOfTable (Keys kids last) = ⊤
IsOfTable (Entries entries) = ⊥
IsOfTable (Between kids last) = ⊥

-- the parts of a table's page were found; or memory was short, or a disk's call failed
abbrev pub FindsParts : PageMap → ℕ → ℕ → Result Parts Fault → Type 0
FindsParts pages size number result = (node : Node) → AreWhole size pages → Says pages number node → IsOfTable node
    → MatchResult result (λ parts. parts ≡ parts_for node) IsOutside

-- the child at a place of an interior page was found; or memory was short, or a disk's call failed
abbrev pub ReadsChild : PageMap → ℕ → ℕ → ℕ → Result ℕ Fault → Type 0
ReadsChild pages size number place result = (kids : List (ℕ × ℤ)) (last : ℕ) → AreWhole size pages → Says pages number (Keys kids last)
    → MatchResult result (λ child. child ≡ child_at place kids last) IsOutside

-- Where a leaf's row at a place goes on over pages that aren't free, these are free then; or memory was short, or a disk's call failed.
abbrev pub FreesRow : PageMap → PageMap → ℕ → ℕ → ℕ → Result ⊤ Fault → Type 0
FreesRow old new size page place result = (said : List (ℤ × Local)) (d : ℤ × Local) (held : Held) (free : List ℕ) → Says old page (Rows said)
    → place < length said → IsHeldAs old size (slice_index_or said place d) held → AreFree old size free → occurs 1 held.pages ≡ 0
    → IsOnce (held.pages ++ free) → MatchResult result (λ done. AreGivenBack old new size held.pages free) IsOutside

-- ---- a tree under a page

-- a tree under a page, and free pages beside it, none of them in it; page 1 is at most its top, and no way is longer
pub record StandsUnder (map : PageMap) (size number ways depth : ℕ) (t : Tree depth) (free : List ℕ) : Type 0 where
  pub top_is : top depth t ≡ number
  pub lies : Lies map size depth t
  pub shallow : depth ≤ ways
  pub apart : (n : ℕ) → occurs n (pages_of depth t) + occurs n free ≤ 1
  pub first : occurs 1 (below_of depth t) ≡ 0
  pub free_are : AreFree map size free

-- where a leaf with so many rows is a tree, the pages of its payloads are free then; or memory was short, or a disk's call failed
abbrev pub FreesRows : PageMap → PageMap → ℕ → ℕ → ℕ → Result ⊤ Fault → Type 0
FreesRows old new size number count result = (ways : ℕ) (t : Leaf) (free : List ℕ) → StandsUnder old size number ways zero t free → count ≡ length t.rows
    → MatchResult result (λ done. AreGivenBack old new size (below_of zero t) free) IsOutside

-- where a tree is under a page, its other pages are free then; or memory was short, or a disk's call failed
abbrev pub FreesBelow : PageMap → PageMap → ℕ → ℕ → ℕ → Result ⊤ Fault → Type 0
FreesBelow old new size number ways result = (depth : ℕ) (t : Tree depth) (free : List ℕ) → StandsUnder old size number ways depth t free
    → MatchResult result (λ done. AreGivenBack old new size (below_of depth t) free) IsOutside
