-- Pages that hold listed tables with their indexes, whether or not each key of a table has its index: so they are while a CREATE TABLE makes
-- these (Database File Format, "The Database File").
use Rattle.std.specs.Prelude.{◌≡◌, ◌⊎◌, ◌<◌, ℕ, ℤ, pos, true, false, List, [], ◌∷◌, Option, Some, None, length, codes, map, take, Result, MatchResult}
use Rattle.std.specs.List.{AllByRecursion, list_any}
use Rattle.sqlval.specs.Names.{folded}
use Rattle.sqlval.specs.declared.fault.Fault.{Fault}
use Rattle.sqlval.specs.declared.fault.Fault.TheVariants as fault
use Rattle.db_header.specs.Header.{IsHeader}
use Rattle.db_header.specs.declared.fields.Header.{Header}
use Rattle.sql_syntax.specs.declared.create.IndexDefinition.{IndexDefinition}
use Rattle.sql_syntax.specs.declared.create.NewObject.TheVariants as new
use Rattle.tree_leaf.specs.Leaf.{Entry}
use Rattle.pages.specs.Calls.{IsOutsideOrFull}
use Rattle.pages.specs.Map.{PageMap, page_at}
use Rattle.tree_page.specs.Cells.{Pairwise}
use Rattle.db_layout.specs.Layout.{AreShared, Owner}
use Rattle.catalog.specs.Database.{ATable, AnIndex, Database, Name, object, with_object}
use Rattle.catalog.specs.Listed.{Listed, as_index, is_name_of, listed_in, table_named, with_rows}
use Rattle.catalog.specs.Named.{IsOfListed}
use Rattle.catalog.specs.NewIndexes.{replacing, with_index}
use Rattle.catalog.specs.declared.tables.Catalog.{Catalog}
use Rattle.catalog.specs.declared.tables.Index.{Index}
use Rattle.catalog.specs.declared.tables.IndexColumn.{IndexColumn}
use Rattle.catalog.specs.declared.tables.Table.{Table}
use Rattle.query_names.specs.Keys.{has_clash}
use Rattle.query_names.specs.Schema.{automatic_name, with_objects}
use Rattle.row_scan.specs.Rows.{TableRow}
use Rattle.db_write.specs.Changing.{is_wide}
use Rattle.db_pages.specs.Schema.{AreRowsOf, IsCreateOf, IsIndexOf, due_objects, schema_row}
use Rattle.db_pages.specs.Stored.{AreHeld, all_trees, schema_tree}
use Rattle.executor.specs.Listing.{AreTooLong}

-- The pages hold the schema table with these rows, and the trees of these tables. Each page is used once.
pub record HoldsTrees (map : PageMap) (size : ℕ) (rows_at : ℕ → List TableRow) (tables : List Table) (schema : List Entry) : Type 0 where
  pub header : Header
  pub header_is : IsHeader (page_at map 1) header
  pub sized : header.page_size ≡ size
  pub schema_used : List ℕ
  pub held : List (List Owner)
  pub free : List ℕ
  pub each : Pairwise (AreHeld rows_at) tables held
  pub shared : AreShared map size (schema_tree schema schema_used ∷ all_trees held) free

-- The pages hold what is listed, which the rows of the schema table tell.
pub record HoldsListed (map : PageMap) (size : ℕ) (l : Listed) (db : Database) : Type 0 where
  pub rows_at : ℕ → List TableRow
  pub of_listed : IsOfListed rows_at l db
  pub schema : List Entry
  pub tell : AreRowsOf (length map) l schema
  pub trees : HoldsTrees map size rows_at l.tables schema

-- What a row of the schema table is to say of an index: the CREATE INDEX that makes it, or that it is an automatic one, in letters of either case.
abbrev pub IsToldBy : Table → Index → Name → Option (List ℕ) → Type 0
IsToldBy table index name None = (index.is_automatic ≡ true) × (folded name ≡ folded index.name)
IsToldBy table index name (Some sql) = (d : IndexDefinition) × (name ≡ d.name) × IsCreateOf sql (new.Index d) × IsIndexOf d table index

-- The index is listed with its table, and the pages hold it. No two of the table's rows clash in it.
pub record IsListedWith (new : PageMap) (size : ℕ) (before : Listed) (db : Database) (table : Table) (index : Index) (rows : List TableRow) (after : Listed) : Type 0 where
  pub root : ℕ
  pub rowid : ℤ
  pub apart : has_clash (as_index table index) rows ≡ false
  pub listed : after ≡ replacing (with_index (record index { root = root; rowid = rowid }) table) before
  pub holds : HoldsListed new size after (with_object db index.name (AnIndex (as_index table index)))
  pub rows_are : holds.rows_at table.root ≡ rows

-- Why it isn't: memory or pages are short, or a disk's call failed; no rowid after the table's is free; two rows clash; or something is too long
-- for a record, its row of the schema table only where no two rows clash.
abbrev pub IsListingRefusal : Table → Index → Name → Option (List ℕ) → List TableRow → Fault → Type 0
IsListingRefusal table index name sql rows f = IsOutsideOrFull f
    ⊎ ((f ≡ fault.RowidFull)
    ⊎ (((f ≡ fault.Unique) × (has_clash (as_index table index) rows ≡ true))
    ⊎ (((f ≡ fault.TooLong) × (is_wide (length index.columns) ≡ true))
    ⊎ (has_clash (as_index table index) rows ≡ false) × ((root : ℕ) × AreTooLong (schema_row (codes "index") name table.name root sql) f))))

-- An index of a new name, not listed as yet, is listed with a table, whatever its root and its rowid were; or the call is refused.
abbrev pub ListsIndex : PageMap → PageMap → ℕ → Listed → Table → Index → Name → Option (List ℕ) → Result Catalog Fault → Type 0
ListsIndex old new size before table index name sql result = (db : Database) (held : HoldsListed old size before db) → table_named table.name before.tables ≡ Some table
    → is_name_of before index.name ≡ false → IsToldBy table index name sql
    → MatchResult result (λ catalog. IsListedWith new size before db table index (held.rows_at table.root) (listed_in catalog))
    (IsListingRefusal table index name sql (held.rows_at table.root))

-- ---- the indexes of a table's keys

-- the index of a key of these columns, under its folded name, not listed as yet
abbrev pub key_index : List IndexColumn → Name → Index
key_index columns name = record { name = folded name; columns = columns; is_unique = true; is_automatic = true; root = 0; rowid = pos 0 }

-- nothing that is listed has the name of an automatic index of this table
abbrev pub AreNewNames : Listed → Name → Type 0
AreNewNames l table = (number : ℕ) → is_name_of l (folded (automatic_name table number)) ≡ false

-- The table has the indexes that so many of its keys ask for, in their order, and no others; the pages hold them.
pub record IsKeyed (new : PageMap) (size : ℕ) (before : Listed) (db : Database) (table : Table) (count : ℕ) (after : Listed) : Type 0 where
  pub keyed : Table
  pub alike : keyed ≡ record table { indexes = keyed.indexes }
  pub automatic : AllByRecursion (λ i. i.is_automatic ≡ true) keyed.indexes
  pub keys : map (λ i. (i.name, AnIndex (as_index table i))) keyed.indexes ≡ take count (due_objects table)
  pub listed : after ≡ replacing keyed before
  pub holds : HoldsListed new size after (with_objects db (take count (due_objects table)))
  pub empty : holds.rows_at table.root ≡ []

-- Why they aren't: memory or pages are short, or a disk's call failed, or no rowid after the table's is free for one of them, or something is too
-- long for a record.
abbrev pub IsKeyRefusal : Table → Fault → Type 0
IsKeyRefusal table f = IsOutsideOrFull f
    ⊎ (f ≡ fault.RowidFull) × (0 < length table.keys)
    ⊎ (f ≡ fault.TooLong) × (list_any (λ columns. is_wide (length columns)) table.keys ≡ true)
    ⊎ ((number : ℕ) × (root : ℕ) × AreTooLong (schema_row (codes "index") (automatic_name table.name number) table.name root None) f)

-- Where the table of a name is listed without rows and indexes, each of its keys has an index; or the call is refused.
abbrev pub ListsKeys : PageMap → PageMap → ℕ → Listed → Name → Result Catalog Fault → Type 0
ListsKeys old new size before name result = (db : Database) (held : HoldsListed old size before db) (table : Table) → table_named name before.tables ≡ Some table
    → table.indexes ≡ [] → held.rows_at table.root ≡ [] → AreNewNames before table.name
    → MatchResult result (λ catalog. IsKeyed new size before db table (length table.keys) (listed_in catalog)) (IsKeyRefusal table)
