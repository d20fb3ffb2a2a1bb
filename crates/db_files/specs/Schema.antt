-- What the rows of the schema table say (Database File Format, "Storage Of The SQL Database Schema").
use Rattle.std.specs.Prelude.{◌≡◌, ◌⊎◌, ◌&&◌, ℕ, Bool, true, false, List, [], ◌∷◌, map, filter, codes, pos, Option, Some, None}
use Rattle.std.specs.List.{AllByRecursion}
use Rattle.sqlval.specs.Names.{folded, is_same_name}
use Rattle.sqlval.specs.Lists.{sorted}
use Rattle.sqlval.specs.declared.collation.Collation.{Collation}
use Rattle.sqlval.specs.declared.value.Value.{Value}
use Rattle.sqlval.specs.declared.value.Value.TheVariants.{Null, Int, Text}
use Rattle.record.specs.Record.{IsRecord}
use Rattle.tree_leaf.specs.Leaf.{Entry}
use Rattle.sql_syntax.specs.declared.create.NewObject.{NewObject}
use Rattle.sql_syntax.specs.declared.create.NewObject.TheVariants as new
use Rattle.sql_syntax.specs.declared.create.TableDefinition.{TableDefinition}
use Rattle.sql_syntax.specs.declared.create.IndexDefinition.{IndexDefinition}
use Rattle.sql_syntax.specs.declared.create.ViewDefinition.{ViewDefinition}
use Rattle.sql_syntax.specs.declared.create.TriggerDefinition.{TriggerDefinition}
use Rattle.catalog.specs.Database.{Name, Database, Object, ATable, AnIndex, AView, ATrigger, Table, Index, View, name_order, object}
use Rattle.query_names.specs.Checked.{good}
use Rattle.query_names.specs.Schema.{automatic, index_made, view_made}
use Rattle.query_names.specs.Tables.{table_made}

-- What is known of SQL: which text is, from its first to its last token, a CREATE of which object, and which of them are
-- not refused beside the objects of a database.
pub record Language : Type 1 where
  pub Creates : List ℕ → NewObject → Type 0
  pub Accepts : Database → NewObject → Type 0

-- a row of the schema table
pub record SchemaRow : Type 0 where
  pub kind : List ℕ
  pub name : Name
  pub table : Name
  pub root : ℕ
  pub sql : Option (List ℕ)

abbrev pub sql_value : Option (List ℕ) → Value
sql_value None = Null
sql_value (Some sql) = Text sql

-- its values: type, name, tbl_name, rootpage and sql
abbrev pub schema_values : SchemaRow → List Value
schema_values row = Text row.kind ∷ Text row.name ∷ Text row.table ∷ Int (pos row.root) ∷ sql_value row.sql ∷ []

-- the bytes of a row are the record of its values
abbrev pub IsSchemaEntry : Entry → SchemaRow → Type 0
IsSchemaEntry entry row = IsRecord entry.payload (schema_values row)

-- the row has the text of a CREATE of this object, which isn't refused in this database
pub record HasText (language : Language) (db : Database) (row : SchemaRow) (made : NewObject) : Type 0 where
  pub text : List ℕ
  pub sql_is : row.sql ≡ Some text
  pub creates : language.Creates text made
  pub accepts : language.Accepts db made

abbrev is_automatic_on : Name → Name × Object → Bool
is_automatic_on table (name, AnIndex i) = i.is_automatic && is_same_name i.table table
is_automatic_on table _ = false

-- the indexes that a table made itself, by name
abbrev pub automatic_indexes : Database → Name → List (Name × Object)
automatic_indexes db table = filter (is_automatic_on table) db

-- A table's row: the type, the name twice and the text, which makes the table, whatever rows it has. The table's automatic indexes
-- are those that the text asks for.
pub record IsTableRow (language : Language) (db : Database) (row : SchemaRow) (t : Table) : Type 0 where
  pub definition : TableDefinition
  pub kind : row.kind ≡ codes "table"
  pub text : HasText language db row (new.Table definition)
  pub name : folded row.name ≡ folded definition.name
  pub table : folded row.table ≡ folded definition.name
  pub keys : List (List (ℕ × Collation))
  pub made : table_made definition ≡ good (record t { rows = [] }, keys)
  pub automatic_are : sorted (λ a b. name_order a.0 b.0) (automatic definition.name 1 keys) ≡ automatic_indexes db definition.name

-- The row of an index with a text: the type, the names of the index and of its table, and the text, which makes the index.
pub record IsIndexRow (language : Language) (db : Database) (row : SchemaRow) (i : Index) : Type 0 where
  pub definition : IndexDefinition
  pub kind : row.kind ≡ codes "index"
  pub text : HasText language db row (new.Index definition)
  pub name : folded row.name ≡ folded definition.name
  pub table : folded row.table ≡ folded definition.table
  pub made : index_made (object db definition.table) definition ≡ good (AnIndex i)

-- The row of an index that a table made itself: the type, the table's name, and no text. The table's row says what it is.
pub record IsAutomaticRow (db : Database) (row : SchemaRow) (i : Index) : Type 0 where
  pub t : Table
  pub kind : row.kind ≡ codes "index"
  pub sql : row.sql ≡ None
  pub is_automatic : i.is_automatic ≡ true
  pub table : folded row.table ≡ i.table
  pub on : object db i.table ≡ Some (ATable t)

-- A view's row: the type, the name twice, no page and the text.
pub record IsViewRow (language : Language) (db : Database) (row : SchemaRow) (v : View) : Type 0 where
  pub definition : ViewDefinition
  pub kind : row.kind ≡ codes "view"
  pub text : HasText language db row (new.View definition)
  pub name : folded row.name ≡ folded definition.name
  pub table : folded row.table ≡ folded definition.name
  pub root : row.root ≡ 0
  pub made : view_made definition ≡ good (AView v)

-- A trigger's row: the type, its name and its table's or view's, no page and the text.
pub record IsTriggerRow (language : Language) (db : Database) (row : SchemaRow) (t : TriggerDefinition) : Type 0 where
  pub kind : row.kind ≡ codes "trigger"
  pub text : HasText language db row (new.Trigger t)
  pub name : folded row.name ≡ folded t.name
  pub table : folded row.table ≡ folded t.target
  pub root : row.root ≡ 0

-- the row says this object
abbrev pub IsRowOfObject : Language → Database → SchemaRow → Object → Type 0
IsRowOfObject language db row (ATable t) = IsTableRow language db row t
IsRowOfObject language db row (AnIndex i) = IsIndexRow language db row i ⊎ IsAutomaticRow db row i
IsRowOfObject language db row (AView v) = IsViewRow language db row v
IsRowOfObject language db row (ATrigger t) = IsTriggerRow language db row t

-- the row says the object of its name
pub record IsSchemaRowOf (language : Language) (db : Database) (row : SchemaRow) : Type 0 where
  pub is : Object
  pub found : object db row.name ≡ Some is
  pub says : IsRowOfObject language db row is

-- The rows are the objects of the database: one for each name, in any order, and each says the object of its name.
pub record IsSchema (language : Language) (rows : List SchemaRow) (db : Database) : Type 0 where
  pub names : sorted name_order (map (λ row. folded row.name) rows) ≡ map (λ o. o.0) db
  pub each : AllByRecursion (IsSchemaRowOf language db) rows
