-- Rows that are added to the schema table, and taken out of it (Database File Format, "Storage Of The SQL Database Schema").
use Rattle.std.specs.Prelude.{◌≡◌, ◌⊎◌, ⊤, true, false, ℕ, ℤ, ◌<ℤ◌, List, [], ◌∷◌, filter, map, Option, None, Some, option_map, Result, MatchResult}
use Rattle.std.specs.List.{AllByRecursion}
use Rattle.sqlval.specs.Refusals.{Exists, Misuse, Refusal}
use Rattle.sqlval.specs.declared.fault.Fault.{Fault}
use Rattle.sqlval.specs.declared.fault.Fault.TheVariants as fault
use Rattle.sqlval.specs.declared.value.Value.{Value}
use Rattle.record.specs.Record.{IsRecord}
use Rattle.record.specs.Writing.{AreStorable}
use Rattle.tree_leaf.specs.Leaf.{Entry}
use Rattle.pages.specs.Calls.{IsOutsideOrFull}
use Rattle.pages.specs.Map.{PageMap}
use Rattle.sql_syntax.specs.declared.create.TableDefinition.{TableDefinition}
use Rattle.sql_syntax.specs.declared.create.ViewDefinition.{ViewDefinition}
use Rattle.catalog.specs.Database.{Name}
use Rattle.catalog.specs.Listed.{Listed, is_name_of, is_on, is_reserved, names_listed, table_named, view_named}
use Rattle.catalog.specs.declared.tables.Table.{Table}
use Rattle.catalog.specs.declared.tables.Trigger.{Trigger}
use Rattle.catalog.specs.declared.tables.View.{View}
use Rattle.db_pages.specs.Schema.{IsTableOf}
use Rattle.tree_table.specs.Calls.{BecomesRows, Stands}
use Rattle.tree_table.specs.Rows.{payload_at, with_row, without_row}
use Rattle.query_names.specs.Scopes.{is_doubled}

-- the tree has one more row, of these values and at this rowid
pub record IsAdded (old new : PageMap) (size : ℕ) (values : List Value) (rows : List Entry) (used free : List ℕ) (rowid : ℤ) : Type 0 where
  pub entry : Entry
  pub rowid_is : entry.rowid ≡ rowid
  pub is : IsRecord entry.payload values
  pub becomes : BecomesRows old new size 1 (with_row entry rows) used free

-- no record can hold the values
abbrev pub AreTooLong : List Value → Fault → Type 0
AreTooLong values f = (f ≡ fault.TooLong) × (AreStorable values → ⊥)

-- where a tree stands under page 1 that has no row of this rowid, it has one of these values then; or the call is refused
abbrev pub AddsRow : PageMap → PageMap → ℕ → ℤ → List Value → Result ⊤ Fault → Type 0
AddsRow old new size rowid values result = (rows : List Entry) (used free : List ℕ) → Stands old size 1 rows used free → payload_at rowid rows ≡ None
    → MatchResult result (λ done. IsAdded old new size values rows used free rowid) (λ f. IsOutsideOrFull f ⊎ AreTooLong values f)

-- the rows without those of these rowids
abbrev pub without_rows : List ℤ → List Entry → List Entry
without_rows [] rows = rows
without_rows (rowid ∷ rowids) rows = without_rows rowids (without_row rowid rows)

-- each of these rows is there once
abbrev pub AreThere : List ℤ → List Entry → Type 0
AreThere [] rows = ⊤
AreThere (rowid ∷ rowids) rows = (payload_at rowid rows ≡ None → ⊥) × AreThere rowids (without_row rowid rows)

-- where a tree stands under page 1, its rows of these rowids are taken out; or memory was short, a disk's call failed, or there are as many
-- pages as there may be
abbrev pub TakesSchemaRows : PageMap → PageMap → ℕ → List ℤ → Result ⊤ Fault → Type 0
TakesSchemaRows old new size rowids result = (rows : List Entry) (used free : List ℕ) → Stands old size 1 rows used free → AreThere rowids rows
    → MatchResult result (λ done. BecomesRows old new size 1 (without_rows rowids rows) used free) IsOutsideOrFull

-- where a tree stands under page 1, its row of this rowid is taken out; or memory was short, a disk's call failed, or there are as
-- many pages as there may be
abbrev pub TakesSchemaRow : PageMap → PageMap → ℕ → ℤ → Result ⊤ Fault → Type 0
TakesSchemaRow old new size rowid result = (rows : List Entry) (used free : List ℕ) → Stands old size 1 rows used free
    → (payload_at rowid rows ≡ None → ⊥)
    → MatchResult result (λ done. BecomesRows old new size 1 (without_row rowid rows) used free) IsOutsideOrFull

-- the rowids of the rows of the triggers of a table or view
abbrev pub rowids_on : Name → List Trigger → List ℤ
rowids_on name triggers = map (λ t. t.rowid) (filter (is_on name) triggers)

-- nothing is in the way of a view: its name may be given, nothing that is listed has it, and its text lists no name twice
pub record IsNewView (l : Listed) (d : ViewDefinition) : Type 0 where
  pub free : is_reserved d.name ≡ false
  pub new : is_name_of l d.name ≡ false
  pub once : is_doubled (names_listed d) ≡ false

-- why one is refused
abbrev pub IsViewRefusal : Listed → ViewDefinition → Refusal → Type 0
IsViewRefusal l d r =
    (r ≡ Misuse) × (is_reserved d.name ≡ true) ⊎ (((r ≡ Exists) × (is_name_of l d.name ≡ true)) ⊎ (r ≡ Misuse) × (is_doubled (names_listed d) ≡ true))

-- The table of a definition, without indexes. Nothing that is listed has its name.
pub record IsNewTable (l : Listed) (d : TableDefinition) (table : Table) : Type 0 where
  pub makes : IsTableOf d table
  pub new : is_name_of l d.name ≡ false
  pub bare : table.indexes ≡ []

-- ---- the order of rows

-- the rowid of a table's row, or else of a view's
abbrev pub row_among : Option Table → Option View → Option ℤ
row_among (Some table) view = Some table.rowid
row_among None view = option_map (λ v. v.rowid) view

-- the rowid of the row of the table or view of a name
abbrev pub target_row : Listed → Name → Option ℤ
target_row l name = row_among (table_named name l.tables) (view_named name l.views)

-- a rowid is there, and the other is greater
abbrev pub StandsAfter : Option ℤ → ℤ → Type 0
StandsAfter None rowid = ⊥
StandsAfter (Some first) rowid = first <ℤ rowid

-- the rows of a table's indexes stand after its own
abbrev pub AreIndexesAfter : Table → Type 0
AreIndexesAfter table = AllByRecursion (λ i. table.rowid <ℤ i.rowid) table.indexes

-- a trigger's row stands after that of the table or view that it is on
abbrev pub IsTriggerAfter : Listed → Trigger → Type 0
IsTriggerAfter l trigger = StandsAfter (target_row l trigger.definition.target) trigger.rowid

-- Each row of the schema table stands after that of what it belongs to: rows are read by their rowids, and what an index or a trigger is on
-- has to be known then.
pub record AreAfter (l : Listed) : Type 0 where
  pub indexes : AllByRecursion AreIndexesAfter l.tables
  pub triggers : AllByRecursion (IsTriggerAfter l) l.triggers
