-- What `load` answers, and what one row of the schema table says (Database File Format, "Storage Of The SQL Database Schema").
use Rattle.std.specs.Prelude.{◌≡◌, ◌<◌, ◌≤◌, true, false, ℕ, ℤ, codes, List, [], length, Option, Some, None, option_map, ⊤}
use Rattle.sqlval.specs.declared.fault.Fault.{Fault}
use Rattle.sqlval.specs.declared.fault.Fault.TheVariants.{Blank, Damaged, Io, Memory, NotADatabase, Unsupported}
use Rattle.sqlval.specs.declared.value.Value.{Value}
use Rattle.sqlval.specs.Faults.{IsNotDiskFault}
use Rattle.sqlval.specs.Names.{is_same_name}
use Rattle.pages.specs.Map.{PageMap}
use Rattle.sql_syntax.specs.declared.create.IndexDefinition.{IndexDefinition}
use Rattle.sql_syntax.specs.declared.create.NewObject.TheVariants as new
use Rattle.sql_syntax.specs.declared.create.TableDefinition.{TableDefinition}
use Rattle.sql_syntax.specs.declared.create.TriggerDefinition.{TriggerDefinition}
use Rattle.sql_syntax.specs.declared.statement.Statement.{Statement}
use Rattle.sql_grammar.specs.Statements.{is_statement_within}
use Rattle.sql_grammar.specs.Texts.{IsStatementText}
use Rattle.catalog.specs.Database.{Database, Name}
use Rattle.catalog.specs.Listed.{is_reserved, listed_in, names_listed}
use Rattle.catalog.specs.declared.tables.Catalog.{Catalog}
use Rattle.catalog.specs.declared.tables.Index.{Index}
use Rattle.catalog.specs.declared.tables.Table.{Table}
use Rattle.catalog.specs.declared.tables.Trigger.{Trigger}
use Rattle.catalog.specs.declared.tables.View.{View}
use Rattle.query_names.specs.Scopes.{is_doubled}
use Rattle.db_pages.specs.Schema.{IsCreateOf, IsIndexOf, IsTableOf, schema_row}
use Rattle.db_pages.specs.Stored.{IsCounted, Stores}
use Rattle.db_load.specs.declared.schema.SchemaKind.{SchemaKind}
use Rattle.db_load.specs.declared.schema.SchemaKind.TheVariants as kind
use Rattle.db_load.specs.declared.schema.SchemaRow.{SchemaRow}

-- neither a disk's failure, nor that of a full database or a blank file
abbrev pub IsSchemaFault : Fault → Type 0
IsSchemaFault fault = IsNotDiskFault fault × (fault ≡ Blank → ⊥)

-- Why a database isn't loaded: its file is none, has what isn't supported, or is damaged; memory was short, or a disk's call failed.
abbrev pub IsLoadFault : Fault → Type 0
IsLoadFault Memory = ⊤
IsLoadFault Io = ⊤
IsLoadFault NotADatabase = ⊤
IsLoadFault (Unsupported feature) = ⊤
IsLoadFault (Damaged damage page) = ⊤
IsLoadFault _ = ⊥

-- The pages hold a database of what the catalog lists, and page 1 counts them.
pub record FindsDatabase (map : PageMap) (size : ℕ) (catalog : Catalog) : Type 0 where
  pub database : Database
  pub stored : Stores map size (listed_in catalog) database
  pub counted : IsCounted map

-- ---- the parts of a row

-- the text of a row's kind
abbrev pub kind_text : SchemaKind → List ℕ
kind_text kind.Table = codes "table"
kind_text kind.Index = codes "index"
kind_text kind.View = codes "view"
kind_text kind.Trigger = codes "trigger"

-- the page, of so many, where the tree of a row begins: a view and a trigger have none
abbrev pub IsRootFor : ℕ → SchemaKind → ℕ → Type 0
IsRootFor pages kind.Table root = (1 < root) × (root ≤ pages)
IsRootFor pages kind.Index root = (1 < root) × (root ≤ pages)
IsRootFor pages kind.View root = root ≡ 0
IsRootFor pages kind.Trigger root = root ≡ 0

-- the text of a row, or none
abbrev pub text_of : SchemaRow → Option (List ℕ)
text_of row = option_map (λ text. text.now) row.sql

-- the parts of a row
pub record HasParts (id : ℤ) (its_kind : SchemaKind) (called table_called : List ℕ) (page : ℕ) (text : Option (List ℕ)) (row : SchemaRow) : Type 0 where
  pub rowid_is : row.rowid ≡ id
  pub kind_is : row.kind ≡ its_kind
  pub name_is : row.name.now ≡ called
  pub table_name_is : row.table_name.now ≡ table_called
  pub root_is : row.root ≡ page
  pub sql_is : text_of row ≡ text

-- The values are those of a row with these parts. The page where its tree begins, if it has one, is one of so many.
pub record AreRowValues (pages : ℕ) (row : SchemaRow) (values : List Value) : Type 0 where
  pub values_are : values ≡ schema_row (kind_text row.kind) row.name.now row.table_name.now row.root (text_of row)
  pub rooted : IsRootFor pages row.kind row.root

-- The row has a text, which is this statement within the limits.
pub record IsTextOf (row : SchemaRow) (statement : Statement) : Type 0 where
  pub text : List ℕ
  pub text_is : text_of row ≡ Some text
  pub is : IsStatementText text statement
  pub within : is_statement_within statement ≡ true
  pub short : length text ≤ 65536

-- ---- what they tell

-- the table without its indexes
abbrev pub bare : Table → Table
bare table = record table { indexes = [] }

-- The name isn't reserved. The row has it twice.
pub record IsOfRow (row : SchemaRow) (called : Name) : Type 0 where
  pub name_is : is_same_name called row.name.now ≡ true
  pub table_name_is : is_same_name called row.table_name.now ≡ true
  pub free : is_reserved called ≡ false

-- The parts of a row tell this table.
pub record TellsTable (table : Table) (row : SchemaRow) : Type 0 where
  pub text : List ℕ
  pub text_is : text_of row ≡ Some text
  pub definition : TableDefinition
  pub creates : IsCreateOf text (new.Table definition)
  pub names : IsOfRow row definition.name
  pub makes : IsTableOf definition table
  pub root_is : table.root ≡ row.root
  pub rowid_is : table.rowid ≡ row.rowid

-- The row has the definition's name and its table's.
pub record IsOfIndexRow (row : SchemaRow) (definition : IndexDefinition) : Type 0 where
  pub name_is : is_same_name definition.name row.name.now ≡ true
  pub table_name_is : is_same_name definition.table row.table_name.now ≡ true

-- The parts of a row with a text tell this index of the table.
pub record TellsIndex (table : Table) (index : Index) (row : SchemaRow) : Type 0 where
  pub text : List ℕ
  pub text_is : text_of row ≡ Some text
  pub definition : IndexDefinition
  pub creates : IsCreateOf text (new.Index definition)
  pub names : IsOfIndexRow row definition
  pub makes : IsIndexOf definition table index
  pub root_is : index.root ≡ row.root
  pub rowid_is : index.rowid ≡ row.rowid

-- The parts of a row without a text tell this automatic index of the table.
pub record TellsKeyIndex (table : Table) (index : Index) (row : SchemaRow) : Type 0 where
  pub automatic : index.is_automatic ≡ true
  pub no_text : text_of row ≡ None
  pub name_is : is_same_name index.name row.name.now ≡ true
  pub table_name_is : is_same_name table.name row.table_name.now ≡ true
  pub root_is : index.root ≡ row.root
  pub rowid_is : index.rowid ≡ row.rowid

-- The parts of a row tell this view.
pub record TellsView (view : View) (row : SchemaRow) : Type 0 where
  pub text : List ℕ
  pub text_is : text_of row ≡ Some text
  pub creates : IsCreateOf text (new.View view.definition)
  pub names : IsOfRow row view.definition.name
  pub once : is_doubled (names_listed view.definition) ≡ false
  pub rowid_is : view.rowid ≡ row.rowid

-- The name isn't reserved. The row has it, and that of the trigger's table or view.
pub record IsOfTriggerRow (row : SchemaRow) (definition : TriggerDefinition) : Type 0 where
  pub name_is : is_same_name definition.name row.name.now ≡ true
  pub target_name_is : is_same_name definition.target row.table_name.now ≡ true
  pub free : is_reserved definition.name ≡ false

-- The parts of a row tell this trigger.
pub record TellsTrigger (trigger : Trigger) (row : SchemaRow) : Type 0 where
  pub text : List ℕ
  pub text_is : text_of row ≡ Some text
  pub creates : IsCreateOf text (new.Trigger trigger.definition)
  pub names : IsOfTriggerRow row trigger.definition
  pub rowid_is : trigger.rowid ≡ row.rowid
