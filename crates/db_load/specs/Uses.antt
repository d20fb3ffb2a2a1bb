-- What the pages of a database are used for: the schema table, the trees of each table, and the freelist.
use Rattle.std.specs.Prelude.{◌≡◌, ◌≤◌, ◌<◌, ⊤, true, ℕ, Bool, List, ◌++◌, length, MatchOption, Result, Ok, Err}
use Rattle.std.specs.List.{AllByRecursion}
use Rattle.sqlval.specs.declared.fault.Fault.{Fault}
use Rattle.sqlval.specs.Faults.{IsOutside}
use Rattle.db_header.specs.Header.{IsHeader, counted_of}
use Rattle.db_header.specs.declared.fields.Header.{Header}
use Rattle.tree_leaf.specs.Leaf.{Entry}
use Rattle.pages.specs.Counting.{occurs, fresh}
use Rattle.pages.specs.Map.{PageMap}
use Rattle.freelist.specs.Freelist.{Trunk, IsFreelist, pages_of}
use Rattle.tree_page.specs.Cells.{Pairwise}
use Rattle.tree_table.specs.Tree.{IsTableTree}
use Rattle.db_layout.specs.Layout.{IsTree, Owner, used_by}
use Rattle.db_layout.specs.Trees.{AreTreesOf, IsEntriesTree}
use Rattle.catalog.specs.Listed.{Listed, are_named_once, listed_in, shape_of}
use Rattle.catalog.specs.declared.tables.Catalog.{Catalog}
use Rattle.catalog.specs.declared.tables.Index.{Index}
use Rattle.catalog.specs.declared.tables.Table.{Table}
use Rattle.row_scan.specs.Rows.{TableRow}
use Rattle.row_scan.specs.Trees.{AreFitRows}
use Rattle.tree_check.specs.Exact.{HasMarked}
use Rattle.tree_check.specs.Marks.{mark_of, Marks, AreUnmarked}
use Rattle.db_pages.specs.Schema.{AreRowsOf, HasKeyIndexes}
use Rattle.db_pages.specs.Stored.{all_trees}
use Rattle.db_load.specs.Reading.{AreOnTargets}

-- Page 1 begins with this header, which tells this page size, and counts so many pages, where its count holds.
pub record IsFirstHeader (page : List ℕ) (page_size size : ℕ) (header : Header) : Type 0 where
  pub header_is : IsHeader page header
  pub sized : header.page_size ≡ page_size
  pub counted : MatchOption (counted_of header) (⊤) (λ count. count ≡ size)

-- The pages hold the tree, which has exactly the entries of the rows in the index.
pub record HasEntries (map : PageMap) (size : ℕ) (rows : List TableRow) (index : Index) (owner : Owner) : Type 0 where
  pub is : IsEntriesTree rows index owner
  pub tree : IsTree map size owner

-- The pages hold these trees, which are those of the table and of its indexes. Their rows are such as the table may hold.
pub record HasTrees (map : PageMap) (size : ℕ) (table : Table) (trees : List Owner) : Type 0 where
  pub rows : List TableRow
  pub are : AreTreesOf table rows trees
  pub lie : AllByRecursion (IsTree map size) trees
  pub fit : AreFitRows (shape_of table) rows

-- the pages that the trees of tables use
abbrev pub pages_held : List (List Owner) → List ℕ
pages_held held = used_by (all_trees held)

-- the schema table's rows and the pages of its tree, the trees of each table, and the freelist
pub record Uses : Type 0 where
  pub schema : List Entry
  pub schema_used : List ℕ
  pub held : List (List Owner)
  pub trunks : List Trunk

-- the pages that are used
abbrev pub pages_used : Uses → List ℕ
pages_used uses = uses.schema_used ++ (pages_held uses.held ++ pages_of uses.trunks)

-- The pages are used so: the schema table's rows tell what is listed, each table has its trees and the indexes that its keys ask for, each
-- trigger fits what it is on, and the header tells the freelist.
pub record AreUses (map : PageMap) (size : ℕ) (header : Header) (l : Listed) (uses : Uses) : Type 0 where
  pub tree : IsTableTree map size 1 uses.schema uses.schema_used
  pub tell : AreRowsOf (length map) l uses.schema
  pub once : are_named_once l ≡ true
  pub keys : AllByRecursion HasKeyIndexes l.tables
  pub targets : AreOnTargets l
  pub each : Pairwise (HasTrees map size) l.tables uses.held
  pub listed : IsFreelist map size header.freelist_trunk header.freelist_count uses.trunks

-- The pages are marked that are used so for what the catalog lists, and so are those of any other uses.
pub record IsLoaded (map : PageMap) (size : ℕ) (header : Header) (old new : List Bool) (catalog : Catalog) : Type 0 where
  pub marked : HasMarked (AreUses map size header (listed_in catalog)) pages_used old new
  pub same : (l : Listed) (uses : Uses) → AreUses map size header l uses → AreUnmarked old (pages_used uses)
      → Marks old new (pages_used uses)

-- where the call answered, tables were loaded and pages marked; where pages that aren't marked are used so, memory was short, or a disk's
-- call failed
abbrev pub LoadsUses : PageMap → ℕ → Header → List Bool → List Bool → Result Catalog Fault → Type 0
LoadsUses map size header old new (Ok catalog) = IsLoaded map size header old new catalog
LoadsUses map size header old new (Err fault) = (l : Listed) (uses : Uses) → AreUses map size header l uses
    → AreUnmarked old (pages_used uses) → IsOutside fault

-- each page is marked, from page 1 on
abbrev pub AreAllMarked : List Bool → Type 0
AreAllMarked marks = (n : ℕ) → 1 ≤ n → n < length marks → mark_of n marks ≡ 1

-- each page of the file stands there once, and no other
abbrev pub IsEachOnce : PageMap → List ℕ → Type 0
IsEachOnce map pages = (n : ℕ) → occurs n pages ≡ fresh 0 (length map) n

-- What the catalog lists is what the uses of the pages tell, each page once.
pub record HasAll (map : PageMap) (size : ℕ) (header : Header) (catalog : Catalog) : Type 0 where
  pub uses : Uses
  pub are : AreUses map size header (listed_in catalog) uses
  pub once : IsEachOnce map (pages_used uses)

-- where the call answered, tables were loaded and each page is used once; where it is, memory was short, or a disk's call failed
abbrev pub LoadsAll : PageMap → ℕ → Header → Result Catalog Fault → Type 0
LoadsAll map size header (Ok catalog) = HasAll map size header catalog
LoadsAll map size header (Err fault) = (l : Listed) (uses : Uses) → AreUses map size header l uses
    → IsEachOnce map (pages_used uses) → IsOutside fault
