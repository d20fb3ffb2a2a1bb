-- Which database the pages of a file hold whose tables, indexes, views and triggers are listed (Database File Format, "The Database File").
use Rattle.std.specs.Prelude.{◌≡◌, ⊤, ℕ, true, List, ◌∷◌, flat_map, length, MatchOption}
use Rattle.std.specs.List.{AllByRecursion}
use Rattle.db_header.specs.Header.{IsHeader, counted_of}
use Rattle.db_header.specs.declared.fields.Header.{Header}
use Rattle.tree_leaf.specs.Leaf.{Entry}
use Rattle.pages.specs.Map.{PageMap, page_at}
use Rattle.tree_page.specs.Cells.{Pairwise}
use Rattle.db_layout.specs.Layout.{AreShared, OfRows, Owner}
use Rattle.db_layout.specs.Trees.{AreTreesOf}
use Rattle.catalog.specs.Database.{Database}
use Rattle.catalog.specs.Listed.{Listed, with_rows}
use Rattle.catalog.specs.Named.{IsOfListed}
use Rattle.catalog.specs.Rows.{are_rows}
use Rattle.catalog.specs.declared.tables.Table.{Table}
use Rattle.query_names.specs.Bound.{AreOnce}
use Rattle.query_bind.specs.Triggers.{FitsTarget}
use Rattle.row_scan.specs.Rows.{TableRow}
use Rattle.db_pages.specs.Schema.{AreRowsOf, HasKeyIndexes}

-- the tree of the schema table, which begins at page 1
abbrev pub schema_tree : List Entry → List ℕ → Owner
schema_tree rows used = record { root = 1; content = OfRows rows; used = used }

-- These are the trees of the table and of its indexes. They hold its rows, which are such as it may hold, and their entries.
pub record AreHeld (rows_at : ℕ → List TableRow) (table : Table) (trees : List Owner) : Type 0 where
  pub are : AreTreesOf table (rows_at table.root) trees
  pub fit : are_rows (with_rows table (rows_at table.root)) ≡ true

-- the trees of all tables, one after another
abbrev pub all_trees : List (List Owner) → List Owner
all_trees held = flat_map (λ trees. trees) held

-- The pages, each of this size, hold the database of what is listed: a header, the schema table, whose rows tell what is listed, a tree for each
-- table and index, and the freelist. Each trigger fits what its ON names, and each page is used once.
pub record Stores (map : PageMap) (size : ℕ) (l : Listed) (db : Database) : Type 0 where
  pub rows_at : ℕ → List TableRow
  pub of_listed : IsOfListed rows_at l db
  pub once : AreOnce l.tables
  pub keys : AllByRecursion HasKeyIndexes l.tables
  pub targets : AllByRecursion (λ t. FitsTarget l t.definition) l.triggers
  pub header : Header
  pub header_is : IsHeader (page_at map 1) header
  pub sized : header.page_size ≡ size
  pub schema : List Entry
  pub schema_used : List ℕ
  pub tell : AreRowsOf (length map) l schema
  pub held : List (List Owner)
  pub free : List ℕ
  pub each : Pairwise (AreHeld rows_at) l.tables held
  pub shared : AreShared map size (schema_tree schema schema_used ∷ all_trees held) free

-- The header on page 1 counts the pages, where its count holds (Database File Format, "In-header database size").
pub record IsCounted (map : PageMap) : Type 0 where
  pub header : Header
  pub header_is : IsHeader (page_at map 1) header
  pub counted : MatchOption (counted_of header) (⊤) (λ count. count ≡ length map)
