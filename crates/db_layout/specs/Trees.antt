-- The trees of a table among all trees of a file (Database File Format, "Representation Of SQL Tables", "Representation Of SQL Indices").
use Rattle.std.specs.Prelude.{◌≡◌, ◌≤◌, ℕ, List, [], ◌∷◌, ◌++◌, length}
use Rattle.tree_leaf.specs.Leaf.{Entry}
use Rattle.pages.specs.Map.{PageMap}
use Rattle.freelist.specs.Calls.{KeepsHeader}
use Rattle.tree_page.specs.Cells.{Pairwise}
use Rattle.db_layout.specs.Layout.{AreShared, OfEntries, OfRows, Owner}
use Rattle.catalog.specs.Listed.{shape_of}
use Rattle.catalog.specs.declared.tables.Index.{Index}
use Rattle.catalog.specs.declared.tables.Table.{Table}
use Rattle.row_scan.specs.Rows.{IsRow, TableRow}
use Rattle.index_entries.specs.Entries.{Columns, collations, entries_of_rows}
use Rattle.index_entries.specs.Keeping.{columns_in}

-- the columns of an index, each by its place in the table and the collation of its key
abbrev pub columns_of : Index → Columns
columns_of index = columns_in index.columns

-- The tree of a table's rows, under the table's root ("Representation Of SQL Tables").
pub record IsRowsTree (table : Table) (rows : List TableRow) (owner : Owner) : Type 0 where
  pub root_is : owner.root ≡ table.root
  pub entries : List Entry
  pub content_is : owner.content ≡ OfRows entries
  pub each : Pairwise (IsRow (shape_of table)) entries rows

-- The tree of an index, under the index's root, with exactly the entries of the rows ("Representation Of SQL Indices").
pub record IsEntriesTree (rows : List TableRow) (index : Index) (owner : Owner) : Type 0 where
  pub root_is : owner.root ≡ index.root
  pub content_is : owner.content ≡ OfEntries (collations (columns_of index)) (entries_of_rows (columns_of index) rows)

-- A table's trees: that of its rows, and then that of each of its indexes ("Representation Of SQL Tables", "Representation Of SQL Indices").
abbrev pub AreTreesOf : Table → List TableRow → List Owner → Type 0
AreTreesOf table rows [] = ⊥
AreTreesOf table rows (owner ∷ others) = IsRowsTree table rows owner × Pairwise (IsEntriesTree rows) table.indexes others

-- After the schema table's tree and some others stand those of a table with these rows, and then others. All share the pages of the file
-- with the freelist ("Pages": each page has one use).
pub record AreAmong (map : PageMap) (size : ℕ) (schema : Owner) (before : List Owner) (table : Table) (rows : List TableRow)
    (after : List Owner) : Type 0 where
  pub mine : List Owner
  pub are : AreTreesOf table rows mine
  pub free : List ℕ
  pub shared : AreShared map size (schema ∷ before ++ (mine ++ after)) free

-- So they stand now. The header on page 1 says what it said, except for the freelist, and there are no fewer pages ("The Database Header").
pub record HoldsNow (old new : PageMap) (size : ℕ) (schema : Owner) (before : List Owner) (table : Table) (rows : List TableRow)
    (after : List Owner) : Type 0 where
  pub among : AreAmong new size schema before table rows after
  pub header : KeepsHeader old new
  pub longer : length old ≤ length new
