-- Which database pages stand for (Database File Format, "The Database File" and "Schema Layer").
use Rattle.std.specs.Prelude.{◌≡◌, ℕ, true, List, ◌++◌, length, MatchOption, ⊤}
use Rattle.std.specs.List.{AllByRecursion, flat_map}
use Rattle.db_header.specs.Header.{IsHeader, counted_of}
use Rattle.db_header.specs.declared.fields.Header.{Header}
use Rattle.tree_leaf.specs.Leaf.{Entry}
use Rattle.pages.specs.Map.{PageMap, page_at, Has}
use Rattle.pages.specs.Counting.{occurs}
use Rattle.tree_page.specs.Cells.{Pairwise}
use Rattle.tree_table.specs.Tree.{IsTableTree}
use Rattle.catalog.specs.Database.{Database}
use Rattle.catalog.specs.Rows.{is_in_order}
use Rattle.freelist.specs.Freelist.{Trunk, IsFreelist, pages_of}
use Rattle.db_files.specs.Schema.{Language, SchemaRow, IsSchemaEntry, IsSchema}
use Rattle.db_files.specs.Contents.{HasTree}

-- Page 1 begins with a header of this page size, each page has that size, and where the header counts the pages, there are
-- so many (Database File Format, "In-header database size").
pub record IsHeaded (size : ℕ) (map : PageMap) (header : Header) : Type 0 where
  pub header_is : IsHeader (page_at map 1) header
  pub size_is : header.page_size ≡ size
  pub whole : AllByRecursion (λ page. length page ≡ size) map
  pub counted : MatchOption (counted_of header) (⊤) (λ count. count ≡ length map)

-- The tree under page 1 lists the schema table's rows, and these are the objects of a database whose objects their CREATEs
-- make and whose tables have rows such as they may hold.
pub record HasSchema (language : Language) (size : ℕ) (map : PageMap) (rows : List SchemaRow) (db : Database) (used : List ℕ) : Type 0 where
  pub entries : List Entry
  pub tree : IsTableTree map size 1 entries used
  pub read : Pairwise IsSchemaEntry entries rows
  pub objects : IsSchema language rows db
  pub in_order : is_in_order db ≡ true

-- each page is used exactly once
pub record IsShared (map : PageMap) (used : List ℕ) : Type 0 where
  pub once : (n : ℕ) → Has map n → occurs n used ≡ 1

-- The pages of a view, all of this size, stand for the database: the header, the schema table and the objects in it, each
-- table's tree with its rows and each index's with their entries, the freelist, and each page used exactly once, by a tree
-- or by the freelist.
pub record StandsFor (language : Language) (size : ℕ) (map : PageMap) (db : Database) : Type 0 where
  pub header : Header
  pub rows : List SchemaRow
  pub schema_used : List ℕ
  pub trees_used : List (List ℕ)
  pub trunks : List Trunk
  pub headed : IsHeaded size map header
  pub schema : HasSchema language size map rows db schema_used
  pub trees : Pairwise (HasTree map size db) rows trees_used
  pub freelist : IsFreelist map size header.freelist_trunk header.freelist_count trunks
  pub shared : IsShared map (schema_used ++ (flat_map (λ used. used) trees_used ++ pages_of trunks))
