-- Giving the pages of an index's tree back.
use Rattle.std.specs.Prelude.{◌≡◌, ◌≤◌, ◌<◌, ◌+◌, ℕ, zero, suc, List, [], ◌∷◌, ◌++◌, length, slice_index_or, ⊤, Result, MatchResult}
use Rattle.std.specs.List.{flat_map}
use Rattle.sqlval.specs.Faults.{IsOutside}
use Rattle.sqlval.specs.declared.fault.Fault.{Fault}
use Rattle.pages.specs.Counting.{occurs, IsOnce}
use Rattle.pages.specs.Map.{PageMap}
use Rattle.freelist.specs.Calls.{AreFree}
use Rattle.tree_page.specs.Cells.{Pairwise}
use Rattle.tree_page.specs.Node.{Local, Node, Entries, Between, IsNode}
use Rattle.tree_store.specs.Saying.{Says}
use Rattle.tree_store.specs.Sides.{Each, each_of}
use Rattle.tree_index.specs.Calls.{AreGivenBack}
use Rattle.tree_index.specs.Comparing.{HasEntries, IsOfIndex, locals_of}
use Rattle.tree_index.specs.Tree.{Held, IsHeldAs, Tree, top, pages_of, Lies}

-- the bytes are a page of so many, a leaf without entries
pub record IsEmptyPage (size : ℕ) (page : List ℕ) : Type 0 where
  pub node : IsNode page 0 (Entries [])
  pub sized : length page ≡ size

-- ---- entries

-- the overflow pages of these entries
abbrev pub chains_of : List Held → List ℕ
chains_of entries = flat_map (λ held. held.pages) entries

-- Where the entry at a place of a page goes on over pages that aren't free, these are free then; or memory was short, or a disk's call
-- failed.
abbrev pub FreesEntry : PageMap → PageMap → ℕ → ℕ → ℕ → Result ⊤ Fault → Type 0
FreesEntry old new size number place result = (node : Node) (d : Local) (held : Held) (free : List ℕ) → Says old number node → IsOfIndex node
    → place < length (locals_of node) → IsHeldAs old size (slice_index_or (locals_of node) place d) held → AreFree old size free
    → occurs 1 held.pages ≡ 0 → IsOnce (held.pages ++ free) → MatchResult result (λ done. AreGivenBack old new size held.pages free) IsOutside

-- a page has these entries, whose overflow pages are used once, as is the page; none of them is page 1 or free
pub record HoldEntries (map : PageMap) (size number : ℕ) (node : Node) (entries : List Held) (free : List ℕ) : Type 0 where
  pub has : HasEntries map size number node entries
  pub apart : (n : ℕ) → occurs n (number ∷ chains_of entries) + occurs n free ≤ 1
  pub first : occurs 1 (chains_of entries) ≡ 0
  pub free_are : AreFree map size free

-- where a page has so many entries, their overflow pages are free then; or memory was short, or a disk's call failed
abbrev pub FreesEntries : PageMap → PageMap → ℕ → ℕ → ℕ → Result ⊤ Fault → Type 0
FreesEntries old new size number count result = (node : Node) (entries : List Held) (free : List ℕ) → HoldEntries old size number node entries free
    → count ≡ length entries → MatchResult result (λ done. AreGivenBack old new size (chains_of entries) free) IsOutside

-- ---- children

-- all subtrees of a row
abbrev pub all_of : {T K : Type 0} → List (T × K) → T → List T
all_of [] last = last ∷ []
all_of (kid ∷ kids) last = kid.0 ∷ all_of kids last

-- a page is above these subtrees; their pages are used once, as is the page, and none of them is page 1 or free; no way is longer
pub record HoldKids (map : PageMap) (size number ways depth : ℕ) (kids : List (Tree depth × Held)) (last : Tree depth) (free : List ℕ) : Type 0 where
  pub said : List (ℕ × Local)
  pub says : Says map number (Between said (top depth last))
  pub tops : Pairwise (λ it kid. it.0 ≡ top depth kid.0) said kids
  pub lies : Each (Lies map size depth) kids last
  pub shallow : depth < ways
  pub apart : (n : ℕ) → occurs n (number ∷ flat_map (pages_of depth) (all_of kids last)) + occurs n free ≤ 1
  pub first : occurs 1 (flat_map (pages_of depth) (all_of kids last)) ≡ 0
  pub free_are : AreFree map size free

-- where a page has so many children, their pages are free then; or memory was short, or a disk's call failed
abbrev pub FreesKids : PageMap → PageMap → ℕ → ℕ → ℕ → ℕ → Result ⊤ Fault → Type 0
FreesKids old new size number count ways result = (depth : ℕ) (kids : List (Tree depth × Held)) (last : Tree depth) (free : List ℕ)
    → HoldKids old size number ways depth kids last free → count ≡ suc (length kids)
    → MatchResult result (λ done. AreGivenBack old new size (flat_map (pages_of depth) (all_of kids last)) free) IsOutside

-- ---- a tree under a page

-- the pages of a tree, except for the one at the top
abbrev pub below_of : (depth : ℕ) → Tree depth → List ℕ
below_of zero t = chains_of t.entries
below_of (suc depth) t = each_of (pages_of depth) (λ held. held.pages) t.kids t.last

-- a tree under a page, and free pages beside it, none of them in it; page 1 isn't one of its pages, and no way is longer
pub record StandsUnder (map : PageMap) (size number ways depth : ℕ) (t : Tree depth) (free : List ℕ) : Type 0 where
  pub top_is : top depth t ≡ number
  pub lies : Lies map size depth t
  pub shallow : depth ≤ ways
  pub apart : (n : ℕ) → occurs n (pages_of depth t) + occurs n free ≤ 1
  pub first : occurs 1 (pages_of depth t) ≡ 0
  pub free_are : AreFree map size free

-- where a tree is under a page, its other pages are free then; or memory was short, or a disk's call failed
abbrev pub FreesBelow : PageMap → PageMap → ℕ → ℕ → ℕ → Result ⊤ Fault → Type 0
FreesBelow old new size number ways result = (depth : ℕ) (t : Tree depth) (free : List ℕ) → StandsUnder old size number ways depth t free
    → MatchResult result (λ done. AreGivenBack old new size (below_of depth t) free) IsOutside
