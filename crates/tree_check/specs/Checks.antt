-- What the checks of a tree and of the freelist say.
use Rattle.std.specs.Prelude.{◌≡◌, ◌≤◌, ◌+◌, ℕ, suc, Bool, List, length}
use Rattle.sqlval.specs.PageSizes.{IsPageSize}
use Rattle.sqlval.specs.declared.collation.Collation.{Collation}
use Rattle.tree_leaf.specs.Leaf.{Entry}
use Rattle.pages.specs.Map.{PageMap, AreWhole}
use Rattle.pages.specs.Counting.{occurs}
use Rattle.freelist.specs.Freelist.{Trunk, IsFreelist, pages_of}
use Rattle.tree_table.specs.Tree.{IsTableTree}
use Rattle.tree_index.specs.Entries.{Entry as IndexEntry}
use Rattle.tree_index.specs.Tree.{IsIndexTree}
use Rattle.tree_check.specs.Marks.{mark_of, Marks, AreUnmarked}

-- The pages are whole, and there is a mark for each, and for page 0, which isn't one.
pub record CanMark (map : PageMap) (size : ℕ) (marks : List Bool) : Type 0 where
  pub whole : AreWhole size map
  pub long : length marks ≡ suc (length map)
  pub sized : IsPageSize size

-- Under the root is a table's tree; none of its pages was marked before, and exactly these are marked then.
pub record IsChecked (map : PageMap) (size root : ℕ) (old new : List Bool) : Type 0 where
  pub rows : List Entry
  pub used : List ℕ
  pub tree : IsTableTree map size root rows used
  pub marks : Marks old new used

-- Under the root is a table's tree, none of whose pages is marked.
pub record IsUnmarked (map : PageMap) (size root : ℕ) (marks : List Bool) : Type 0 where
  pub rows : List Entry
  pub used : List ℕ
  pub tree : IsTableTree map size root rows used
  pub apart : (n : ℕ) → mark_of n marks + occurs n used ≤ 1

-- of any tree under the root none of whose pages was marked, exactly its pages were marked
abbrev pub MarksTree : PageMap → ℕ → ℕ → List Bool → List Bool → Type 0
MarksTree map size root old new =
    (rows : List Entry) (used : List ℕ) → IsTableTree map size root rows used → AreUnmarked old used → Marks old new used

-- Under the root is an index's tree of these columns; none of its pages was marked before, and exactly these are marked then.
pub record IsCheckedIndex (map : PageMap) (size root : ℕ) (columns : List Collation) (old new : List Bool) : Type 0 where
  pub entries : List IndexEntry
  pub used : List ℕ
  pub tree : IsIndexTree map size root columns entries used
  pub marks : Marks old new used

-- Under the root is an index's tree of these columns, none of whose pages is marked.
pub record IsUnmarkedIndex (map : PageMap) (size root : ℕ) (columns : List Collation) (marks : List Bool) : Type 0 where
  pub entries : List IndexEntry
  pub used : List ℕ
  pub tree : IsIndexTree map size root columns entries used
  pub apart : (n : ℕ) → mark_of n marks + occurs n used ≤ 1

-- of any index's tree of these columns under the root none of whose pages was marked, exactly its pages were marked
abbrev pub MarksIndex : PageMap → ℕ → ℕ → List Collation → List Bool → List Bool → Type 0
MarksIndex map size root columns old new =
    (entries : List IndexEntry) (used : List ℕ) → IsIndexTree map size root columns entries used → AreUnmarked old used → Marks old new used

-- The trunk page begins a freelist of so many pages; none of them was marked before, and exactly these are marked then.
pub record IsCheckedList (map : PageMap) (size first count : ℕ) (old new : List Bool) : Type 0 where
  pub trunks : List Trunk
  pub listed : IsFreelist map size first count trunks
  pub marks : Marks old new (pages_of trunks)

-- The trunk page begins a freelist of so many pages, none of which is marked.
pub record IsUnmarkedList (map : PageMap) (size first count : ℕ) (marks : List Bool) : Type 0 where
  pub trunks : List Trunk
  pub listed : IsFreelist map size first count trunks
  pub apart : (n : ℕ) → mark_of n marks + occurs n (pages_of trunks) ≤ 1

-- of any freelist of so many pages that begins at the trunk page and none of whose pages was marked, exactly its pages were marked
abbrev pub MarksList : PageMap → ℕ → ℕ → ℕ → List Bool → List Bool → Type 0
MarksList map size first count old new =
    (trunks : List Trunk) → IsFreelist map size first count trunks → AreUnmarked old (pages_of trunks) → Marks old new (pages_of trunks)
