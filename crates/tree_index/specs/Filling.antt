-- A new tree of entries that rise.
use Rattle.std.specs.Prelude.{◌≡◌, ◌⊎◌, ◌≤◌, ◌<◌, ◌+◌, ℕ, List, [], ◌∷◌, map, ⊤, Result, MatchResult}
use Rattle.std.specs.List.{AllByRecursion}
use Rattle.sqlval.specs.PageSizes.{IsPageSize}
use Rattle.sqlval.specs.declared.collation.Collation.{Collation}
use Rattle.sqlval.specs.declared.fault.Fault.{Fault}
use Rattle.sqlval.specs.declared.fault.Fault.TheVariants.{TooLong}
use Rattle.record.specs.Writing.{AreStorable}
use Rattle.pages.specs.Calls.{IsOutsideOrFull}
use Rattle.pages.specs.Counting.{occurs, Moves}
use Rattle.pages.specs.Map.{PageMap, Has}
use Rattle.freelist.specs.Calls.{AreFree, HasFree, KeepsHeader}
use Rattle.tree_page.specs.Cells.{Pairwise}
use Rattle.tree_page.specs.Node.{Local, IsEntryCell}
use Rattle.tree_index.specs.Calls.{Stands}
use Rattle.tree_index.specs.Entries.{Entry, AreEntries}
use Rattle.tree_index.specs.Flattening.{IsBuilt}
use Rattle.tree_index.specs.Freeing.{chains_of}
use Rattle.tree_index.specs.Tree.{Held, IsHeldAs}

-- A tree of these entries stands under the root. Its pages were free, or were added.
pub record IsFilled (old new : PageMap) (size : ℕ) (columns : List Collation) (entries : List Entry) (free : List ℕ) (root : ℕ) : Type 0 where
  pub used : List ℕ
  pub now_free : List ℕ
  pub stands : Stands new size root columns entries used now_free
  pub moves : Moves old new [] free used now_free
  pub header : KeepsHeader old new

-- memory was short, a disk's call failed, there are as many pages as there may be, or no record can hold an entry
abbrev pub IsFillRefusal : List Entry → Fault → Type 0
IsFillRefusal entries fault = IsOutsideOrFull fault ⊎ ((fault ≡ TooLong) × (AllByRecursion AreStorable entries → ⊥))

-- ---- cells of entries

-- These are cells of the entries, in order. Their overflow pages were free, or were added.
pub record AreCells (old new : PageMap) (size : ℕ) (entries : List Entry) (free : List ℕ) (cells : List (List ℕ)) : Type 0 where
  pub said : List Local
  pub held : List Held
  pub say : Pairwise (IsEntryCell size) cells said
  pub are : Pairwise (IsHeldAs new size) said held
  pub entries_are : map (λ held. held.entry) held ≡ entries
  pub now_free : List ℕ
  pub has : HasFree new size now_free
  pub moves : Moves old new [] free (chains_of held) now_free
  pub header : KeepsHeader old new

-- Where these pages are free, cells of the entries are made; or it is refused.
abbrev pub MakesCells : {T : Type 0} → (T → List (List ℕ)) → PageMap → PageMap → ℕ → List Entry → Result T Fault → Type 0
MakesCells cells_in old new size entries result = (free : List ℕ) → AreFree old size free → IsPageSize size
    → MatchResult result (λ made. AreCells old new size entries free (cells_in made)) (IsFillRefusal entries)

-- Cells of entries and a root beside their overflow pages: each of these pages is used once, and isn't free.
pub record AreReady (map' : PageMap) (size root : ℕ) (entries : List Entry) (chains free : List ℕ) (cells : List (List ℕ)) : Type 0 where
  pub said : List Local
  pub held : List Held
  pub say : Pairwise (IsEntryCell size) cells said
  pub are : Pairwise (IsHeldAs map' size) said held
  pub entries_are : map (λ held. held.entry) held ≡ entries
  pub chains_are : chains_of held ≡ chains
  pub has : Has map' root
  pub after : 1 < root
  pub apart : (n : ℕ) → occurs n (root ∷ chains) + occurs n free ≤ 1
  pub first : occurs 1 chains ≡ 0
  pub free_are : AreFree map' size free
  pub sized : IsPageSize size

-- Where cells of entries are ready, a tree with at most 17 pages on a way is built of them; or memory was short, a disk's call failed, or
-- there are as many pages as there may be.
abbrev pub PlantsLeaves : PageMap → PageMap → ℕ → ℕ → List (List ℕ) → Result ⊤ Fault → Type 0
PlantsLeaves old new size root cells result = (entries : List Entry) (chains free : List ℕ) → AreReady old size root entries chains free cells
    → MatchResult result (λ done. IsBuilt old new size root 16 entries chains free) IsOutsideOrFull

-- ---- the tree

-- Where these pages are free, a tree of entries that rise is made; or it is refused.
abbrev pub FillsTree : PageMap → PageMap → ℕ → List Entry → Result ℕ Fault → Type 0
FillsTree old new size entries result = (columns : List Collation) (free : List ℕ) → AreFree old size free → IsPageSize size → AreEntries columns entries
    → MatchResult result (IsFilled old new size columns entries free) (IsFillRefusal entries)
