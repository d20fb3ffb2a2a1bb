-- The rows of the schema table: each has the text of a CREATE, or it is that of an automatic index, without a text
-- (Database File Format, "Storage Of The SQL Database Schema").
use Rattle.std.specs.Prelude.{◌≡◌, ◌⊎◌, ◌<◌, ◌≤◌, true, false, ℕ, pos, codes, List, [], ◌∷◌, ◌++◌, Option, Some, None, filter, flat_map, length, map}
use Rattle.sqlval.specs.Names.{folded}
use Rattle.sqlval.specs.declared.value.Value.{Value}
use Rattle.sqlval.specs.declared.value.Value.TheVariants.{Int, Text}
use Rattle.record.specs.Record.{IsRecord}
use Rattle.tree_leaf.specs.Leaf.{Entry}
use Rattle.tree_page.specs.Cells.{Pairwise}
use Rattle.sql_syntax.specs.declared.create.IndexDefinition.{IndexDefinition}
use Rattle.sql_syntax.specs.declared.create.NewObject.{NewObject}
use Rattle.sql_syntax.specs.declared.create.NewObject.TheVariants as new
use Rattle.sql_syntax.specs.declared.create.TableDefinition.{TableDefinition}
use Rattle.sql_syntax.specs.declared.statement.Statement.TheVariants as statement
use Rattle.sql_grammar.specs.NewObjects.{is_object_within}
use Rattle.sql_grammar.specs.Texts.{IsStatementText}
use Rattle.catalog.specs.Database.{AnIndex, Name, Object}
use Rattle.catalog.specs.Listed.{Listed, as_index, is_reserved, key_columns, names_listed}
use Rattle.catalog.specs.declared.tables.Index.{Index}
use Rattle.catalog.specs.declared.tables.Table.{Table}
use Rattle.catalog.specs.declared.tables.Trigger.{Trigger}
use Rattle.catalog.specs.declared.tables.View.{View}
use Rattle.query_names.specs.Checked.{good}
use Rattle.query_names.specs.Creating.{HasChecksOf, HasColumnsOf, HasKeysOf, has_doubled}
use Rattle.query_names.specs.Schema.{automatic}
use Rattle.query_names.specs.Scopes.{is_doubled}
use Rattle.query_bind.specs.Indexed.{key_of, keys_known, names_in}
use Rattle.db_files.specs.Schema.{sql_value}
use Rattle.db_pages.specs.Reordering.{AreReordered}

-- ---- texts

-- The text, with what may stand around its tokens, is a CREATE of this object within the limits.
pub record IsCreateOf (text : List ℕ) (made : NewObject) : Type 0 where
  pub sql : List ℕ
  pub is : IsStatementText text (statement.Create (record { sql = sql; object = made }))
  pub within : is_object_within made ≡ true
  pub short : length text ≤ 65536

-- ---- what they make

-- The table of a definition, with its columns, CHECKs and keys: its name may be given, and no two columns have one name.
pub record IsTableOf (d : TableDefinition) (table : Table) : Type 0 where
  pub free : is_reserved d.name ≡ false
  pub once : has_doubled d.columns ≡ false
  pub name_is : table.name ≡ d.name
  pub columns : HasColumnsOf d table
  pub checks : HasChecksOf d table
  pub keys : HasKeysOf d table

-- The index of a definition on this table: its name may be given, it names no column twice, and each is one of the table's.
pub record IsIndexOf (d : IndexDefinition) (table : Table) (index : Index) : Type 0 where
  pub free : is_reserved d.name ≡ false
  pub once : is_doubled (names_in d.columns) ≡ false
  pub name_is : index.name ≡ d.name
  pub on : folded d.table ≡ folded table.name
  pub unique : index.is_unique ≡ d.is_unique
  pub written : index.is_automatic ≡ false
  pub columns : keys_known table d ≡ good (map key_of index.columns)

-- the indexes that the keys of a table ask for, each under its name
abbrev pub due_objects : Table → List (Name × Object)
due_objects table = automatic table.name 1 (map key_columns table.keys)

-- its automatic indexes, each under its name
abbrev pub automatic_objects : Table → List (Name × Object)
automatic_objects table = map (λ i. (i.name, AnIndex (as_index table i))) (filter (λ i. i.is_automatic) table.indexes)

-- The automatic indexes of the table are those that its keys ask for, in whatever order.
abbrev pub HasKeyIndexes : Table → Type 0
HasKeyIndexes table = AreReordered (automatic_objects table) (due_objects table)

-- ---- rows

-- the values of a row: its kind, its name and its table's, the page where its tree begins, and its text, or none
abbrev pub schema_row : List ℕ → Name → Name → ℕ → Option (List ℕ) → List Value
schema_row kind name table_name root sql = Text kind ∷ Text name ∷ Text table_name ∷ Int (pos root) ∷ sql_value sql ∷ []

-- The row has this kind and text, a page of so many where a tree begins, and these two names in letters of either case.
pub record HasRowOf (pages : ℕ) (kind : List ℕ) (own_name on_table : Name) (root : ℕ) (sql : Option (List ℕ)) (row : Entry) : Type 0 where
  pub above : 1 < root
  pub within : root ≤ pages
  pub name : Name
  pub name_is : folded name ≡ folded own_name
  pub table_name : Name
  pub table_name_is : folded table_name ≡ folded on_table
  pub row_is : IsRecord row.payload (schema_row kind name table_name root sql)

-- The row, at the rowid that the table has for it, tells the table: it has the text of a CREATE TABLE, and its name twice.
pub record IsTableRow (pages : ℕ) (table : Table) (row : Entry) : Type 0 where
  pub sql : List ℕ
  pub definition : TableDefinition
  pub creates : IsCreateOf sql (new.Table definition)
  pub makes : IsTableOf definition table
  pub rowid_is : row.rowid ≡ table.rowid
  pub row_is : HasRowOf pages (codes "table") definition.name definition.name table.root (Some sql) row

-- The row, at the rowid that the index has for it, tells the index of the table: it has the text of a CREATE INDEX, the
-- name of the index, and that of the table.
pub record IsIndexRow (pages : ℕ) (table : Table) (index : Index) (row : Entry) : Type 0 where
  pub sql : List ℕ
  pub definition : IndexDefinition
  pub creates : IsCreateOf sql (new.Index definition)
  pub makes : IsIndexOf definition table index
  pub rowid_is : row.rowid ≡ index.rowid
  pub row_is : HasRowOf pages (codes "index") definition.name definition.table index.root (Some sql) row

-- The row, at the rowid that the index has for it, tells an automatic index of the table: it has the names of both, and no text.
pub record IsKeyRow (pages : ℕ) (table : Table) (index : Index) (row : Entry) : Type 0 where
  pub automatic : index.is_automatic ≡ true
  pub rowid_is : row.rowid ≡ index.rowid
  pub row_is : HasRowOf pages (codes "index") index.name table.name index.root None row

-- The row, at the rowid that the view has for it, tells the view: it has the text of a CREATE VIEW, whose name may be given and
-- lists no name twice, its name twice in letters of either case, and no page.
pub record IsViewRow (view : View) (row : Entry) : Type 0 where
  pub sql : List ℕ
  pub creates : IsCreateOf sql (new.View view.definition)
  pub free : is_reserved view.definition.name ≡ false
  pub once : is_doubled (names_listed view.definition) ≡ false
  pub rowid_is : row.rowid ≡ view.rowid
  pub name : Name
  pub name_is : folded name ≡ folded view.definition.name
  pub table_name : Name
  pub table_name_is : folded table_name ≡ folded view.definition.name
  pub row_is : IsRecord row.payload (schema_row (codes "view") name table_name 0 (Some sql))

-- The row, at the rowid that the trigger has for it, tells the trigger: it has the text of a CREATE TRIGGER, whose name may be given, that name
-- and the name of its table or view, each in letters of either case, and no page.
pub record IsTriggerRow (trigger : Trigger) (row : Entry) : Type 0 where
  pub sql : List ℕ
  pub creates : IsCreateOf sql (new.Trigger trigger.definition)
  pub free : is_reserved trigger.definition.name ≡ false
  pub rowid_is : row.rowid ≡ trigger.rowid
  pub name : Name
  pub name_is : folded name ≡ folded trigger.definition.name
  pub target_name : Name
  pub target_name_is : folded target_name ≡ folded trigger.definition.target
  pub row_is : IsRecord row.payload (schema_row (codes "trigger") name target_name 0 (Some sql))

-- what a row tells: a table, an index of one, a view, or a trigger
pub data Told : Type 0 where
  TableTold : Table → Told
  IndexTold : Table → Index → Told
  ViewTold : View → Told
  TriggerTold : Trigger → Told

abbrev pub told_by : Table → List Told
told_by table = TableTold table ∷ map (λ index. IndexTold table index) table.indexes

-- all tables and their indexes
abbrev pub tables_told : List Table → List Told
tables_told tables = flat_map told_by tables

-- all that is listed
abbrev pub all_told : Listed → List Told
all_told l = tables_told l.tables ++ (map ViewTold l.views ++ map TriggerTold l.triggers)

-- the row tells it, in a database of so many pages
abbrev pub Tells : ℕ → Told → Entry → Type 0
Tells pages (TableTold table) row = IsTableRow pages table row
Tells pages (IndexTold table index) row = IsIndexRow pages table index row ⊎ IsKeyRow pages table index row
Tells pages (ViewTold view) row = IsViewRow view row
Tells pages (TriggerTold trigger) row = IsTriggerRow trigger row

-- Each row tells one of the tables, indexes, views and triggers, and each of these is told by one row, in whatever order.
pub record AreRowsOf (pages : ℕ) (l : Listed) (rows : List Entry) : Type 0 where
  pub told : List Told
  pub all : AreReordered told (all_told l)
  pub each : Pairwise (Tells pages) told rows
