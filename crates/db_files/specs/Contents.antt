-- What the trees of tables and indexes list (Database File Format, "Representation Of SQL Tables" and 2.5
-- "Representation Of SQL Indices").
use Rattle.std.specs.Prelude.{◌≡◌, ℕ, ℤ, List, [], ◌∷◌, ◌++◌, map, Option, Some, None, slice_index_or}
use Rattle.sqlval.specs.Lists.{sorted}
use Rattle.sqlval.specs.declared.value.Value.{Value}
use Rattle.sqlval.specs.declared.value.Value.TheVariants.{Null, Int}
use Rattle.record.specs.Record.{IsRecord}
use Rattle.tree_leaf.specs.Leaf.{Entry}
use Rattle.pages.specs.Map.{PageMap}
use Rattle.tree_page.specs.Cells.{Pairwise}
use Rattle.tree_table.specs.Tree.{IsTableTree}
use Rattle.tree_index.specs.Entries.{entry_cmp}
use Rattle.tree_index.specs.Tree.{IsIndexTree}
use Rattle.catalog.specs.Database.{Database, Object, ATable, AnIndex, AView, ATrigger, Table, Index, object}
use Rattle.catalog.specs.Rows.{in_record}
use Rattle.db_files.specs.Schema.{SchemaRow}

-- a row of a table: its rowid and its values
abbrev pub Row : Type 0
Row = ℤ × List Value

-- an entry of the tree is this row
pub record IsStoredRow (t : Table) (entry : Entry) (row : Row) : Type 0 where
  pub rowid : entry.rowid ≡ row.0
  pub values : IsRecord entry.payload (in_record t.rowid_column row.1)

-- the tree of a table lists its rows
pub record ListsRows (map : PageMap) (usable root : ℕ) (t : Table) (used : List ℕ) : Type 0 where
  pub entries : List Entry
  pub tree : IsTableTree map usable root entries used
  pub rows : Pairwise (IsStoredRow t) entries t.rows

-- a row's entry in an index: the values of the indexed columns, then the rowid
abbrev pub entry_of : Index → Row → List Value
entry_of i row = map (λ column. slice_index_or row.1 column.0 Null) i.columns ++ Int row.0 ∷ []

-- the entries of a table's rows in the order of an index
abbrev pub entries_of : Index → Table → List (List Value)
entries_of i t = sorted (entry_cmp (map (λ column. column.1) i.columns)) (map (entry_of i) t.rows)

-- the tree of an index lists exactly the entries of its table's rows
pub record ListsEntries (pages : PageMap) (usable root : ℕ) (db : Database) (i : Index) (used : List ℕ) : Type 0 where
  pub t : Table
  pub on : object db i.table ≡ Some (ATable t)
  pub tree : IsIndexTree pages usable root (map (λ column. column.1) i.columns) (entries_of i t) used

-- the pages of an object: those of its tree, and none of a view or a trigger
abbrev pub HasPages : PageMap → ℕ → ℕ → Database → Object → List ℕ → Type 0
HasPages pages usable root db (ATable t) used = ListsRows pages usable root t used
HasPages pages usable root db (AnIndex i) used = ListsEntries pages usable root db i used
HasPages pages usable root db (AView v) used = used ≡ []
HasPages pages usable root db (ATrigger t) used = used ≡ []

-- the object of a schema row's name has its tree under the row's root, on these pages
pub record HasTree (pages : PageMap) (usable : ℕ) (db : Database) (row : SchemaRow) (used : List ℕ) : Type 0 where
  pub is : Object
  pub found : object db row.name ≡ Some is
  pub lists : HasPages pages usable row.root db is used
