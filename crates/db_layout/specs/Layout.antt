-- Which trees use the pages of a file, and which pages are free (Database File Format, "Pages": each page has one use).
use Rattle.std.specs.Prelude.{◌≡◌, ◌+◌, ℕ, List, ◌∷◌, ◌++◌, length}
use Rattle.std.specs.List.{AllByRecursion, flat_map}
use Rattle.sqlval.specs.PageSizes.{IsPageSize}
use Rattle.sqlval.specs.declared.collation.Collation.{Collation}
use Rattle.tree_leaf.specs.Leaf.{Entry}
use Rattle.pages.specs.Counting.{occurs, fresh, Moves}
use Rattle.pages.specs.Map.{PageMap, AreWhole}
use Rattle.freelist.specs.Calls.{HasFree}
use Rattle.tree_table.specs.Calls.{Stands}
use Rattle.tree_table.specs.Tree.{IsTableTree}
use Rattle.tree_index.specs.Calls as index
use Rattle.tree_index.specs.Entries.{Entry as IndexEntry}
use Rattle.tree_index.specs.Tree.{IsIndexTree}

-- what a tree holds: a table's rows, or an index's entries in the order of its columns
pub data Content : Type 0 where
  OfRows : List Entry → Content
  OfEntries : List Collation → List IndexEntry → Content

-- a tree: the page of its root, what it holds, and the pages that it uses
pub record Owner : Type 0 where
  pub root : ℕ
  pub content : Content
  pub used : List ℕ

abbrev pub HoldsUnder : PageMap → ℕ → ℕ → List ℕ → Content → Type 0
HoldsUnder map size root used (OfRows rows) = IsTableTree map size root rows used
HoldsUnder map size root used (OfEntries columns entries) = IsIndexTree map size root columns entries used

-- the pages hold the tree
abbrev pub IsTree : PageMap → ℕ → Owner → Type 0
IsTree map size owner = HoldsUnder map size owner.root owner.used owner.content

-- the pages that trees use
abbrev pub used_by : List Owner → List ℕ
used_by owners = flat_map (λ owner. owner.used) owners

-- The pages hold these trees, and a freelist tells these pages. Each page of the file is used once, by a tree or by the freelist.
pub record AreShared (map : PageMap) (size : ℕ) (owners : List Owner) (free : List ℕ) : Type 0 where
  pub trees : AllByRecursion (IsTree map size) owners
  pub has : HasFree map size free
  pub whole : AreWhole size map
  pub once : (n : ℕ) → occurs n (used_by owners) + occurs n free ≡ fresh 0 (length map) n

-- Where some trees gave way to others, and pages moved accordingly, all pages are shared again.
abbrev pub ReplacesTrees : Type 0
ReplacesTrees = (old new : PageMap) (size : ℕ) (before olds news after : List Owner) (free now_free : List ℕ)
    → AreShared old size (before ++ (olds ++ after)) free
    → Moves old new (used_by olds) free (used_by news) now_free → AllByRecursion (IsTree new size) news → HasFree new size now_free
    → AreShared new size (before ++ (news ++ after)) now_free

-- Where pages are shared by the schema table's tree and others, each table's tree stands beside the free pages.
abbrev pub TreesStand : Type 0
TreesStand = (map : PageMap) (size : ℕ) (schema : Owner) (owners before after : List Owner) (root : ℕ) (rows : List Entry) (used free : List ℕ)
    → AreShared map size (schema ∷ owners) free → schema.root ≡ 1 → schema ∷ owners ≡ before ++ (record { root = root; content = OfRows rows; used = used } ∷ after)
    → IsPageSize size → Stands map size root rows used free

-- and each index's tree does.
abbrev pub IndexTreesStand : Type 0
IndexTreesStand = (map : PageMap) (size : ℕ) (schema : Owner) (before after : List Owner) (root : ℕ) (columns : List Collation) (entries : List IndexEntry) (used free : List ℕ)
    → AreShared map size (schema ∷ before ++ (record { root = root; content = OfEntries columns entries; used = used } ∷ after)) free → schema.root ≡ 1
    → IsPageSize size → index.Stands map size root columns entries used free
