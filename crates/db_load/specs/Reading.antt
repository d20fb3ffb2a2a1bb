-- What the rows of the schema table add to a catalog, those of indexes after the others (Database File Format,
-- "Storage Of The SQL Database Schema").
use Rattle.std.specs.Prelude.{◌≡◌, ◌⊎◌, ⊤, ◌++◌, ◌∷◌, ◌==◌, true, false, not, ℕ, Bool, List, [], Some, length, map, filter, Result, IfOk, OnOk, MatchResult}
use Rattle.std.specs.List.{AllByRecursion}
use Rattle.sqlval.specs.Lists.{any_twice}
use Rattle.sqlval.specs.Names.{folded, is_same_name}
use Rattle.sqlval.specs.declared.fault.Fault.{Fault}
use Rattle.sqlval.specs.declared.fault.Fault.TheVariants.{Memory}
use Rattle.sqlval.specs.declared.value.Value.{Value}
use Rattle.sqlval.specs.declared.value.Value.TheVariants.{Text}
use Rattle.sqlval.specs.Faults.{IsOrOutside, IsOutside}
use Rattle.record.specs.Record.{IsRecord}
use Rattle.tree_leaf.specs.Leaf.{Entry}
use Rattle.pages.specs.Map.{PageMap, AreWhole}
use Rattle.tree_page.specs.Cells.{Pairwise}
use Rattle.tree_table.specs.Tree.{IsTableTree}
use Rattle.catalog.specs.Database.{AnIndex, Name, Object}
use Rattle.catalog.specs.Listed.{Listed, are_named_once, as_index, is_name_of, key_columns, listed_in, table_named, tables_of}
use Rattle.catalog.specs.NewIndexes.{with_index}
use Rattle.catalog.specs.declared.tables.Catalog.{Catalog}
use Rattle.catalog.specs.declared.tables.Index.{Index}
use Rattle.catalog.specs.declared.tables.IndexColumn.{IndexColumn}
use Rattle.catalog.specs.declared.tables.Table.{Table}
use Rattle.query_names.specs.Bound.{is_twice_named}
use Rattle.query_bind.specs.Triggers.{FitsTarget}
use Rattle.db_pages.specs.Reordering.{AreReordered}
use Rattle.db_pages.specs.Schema.{AreRowsOf, HasKeyIndexes, IndexTold, TableTold, Tells, Told, TriggerTold, ViewTold, all_told, due_objects}
use Rattle.db_load.specs.Loading.{TellsIndex, TellsKeyIndex, TellsTable, TellsTrigger, TellsView, bare, kind_text}
use Rattle.db_load.specs.declared.schema.SchemaKind.{SchemaKind}
use Rattle.db_load.specs.declared.schema.SchemaKind.TheVariants as kind
use Rattle.db_load.specs.declared.schema.SchemaRow.{SchemaRow}

-- ---- what is listed

-- what is told, without the other indexes of its table
abbrev pub bare_told : Told → Told
bare_told (TableTold table) = TableTold (bare table)
bare_told (IndexTold table index) = IndexTold (bare table) index
bare_told (ViewTold view) = ViewTold view
bare_told (TriggerTold trigger) = TriggerTold trigger

-- the tables, each without its indexes, the indexes, the views, and the triggers
abbrev pub parts_of : Listed → List Told
parts_of l = map bare_told (all_told l)

abbrev pub name_told : Told → Name
name_told (TableTold table) = table.name
name_told (IndexTold table index) = index.name
name_told (ViewTold view) = view.definition.name
name_told (TriggerTold trigger) = trigger.definition.name

-- the same tables, in whatever order, each with the same indexes, in whatever order, and the same views and triggers, in whatever order
abbrev pub AreAlike : Listed → Listed → Type 0
AreAlike l others = AreReordered (parts_of l) (parts_of others)

-- no two columns of a table have one name, and no two tables, indexes, views or triggers
pub record AreSound (l : Listed) : Type 0 where
  pub columns : AllByRecursion (λ table. is_twice_named table.columns ≡ false) l.tables
  pub named : are_named_once l ≡ true

-- ---- automatic indexes

-- the item is one of the list's
abbrev pub StandsIn : {A : Type 0} → A → List A → Type 0
StandsIn x [] = ⊥
StandsIn x (y ∷ ys) = (y ≡ x) ⊎ StandsIn x ys

-- the automatic index of a table on these columns
abbrev pub due_object : Table → List IndexColumn → Object
due_object table columns = AnIndex (record { table = folded table.name; is_unique = true; is_automatic = true; columns = key_columns columns })

-- the index, if it is automatic, is one that the table's keys ask for
abbrev pub IsDue : Table → Index → Type 0
IsDue table index = index.is_automatic ≡ true → StandsIn (index.name, AnIndex (as_index table index)) (due_objects table)

-- what is told is an index of which this is so, or no index
abbrev pub IsDueTold : Told → Type 0
IsDueTold (TableTold table) = ⊤
IsDueTold (IndexTold table index) = IsDue table index
IsDueTold (ViewTold view) = ⊤
IsDueTold (TriggerTold trigger) = ⊤

-- no two of the indexes that the table's keys ask for have one name
abbrev pub AreDueOnce : Table → Type 0
AreDueOnce table = any_twice is_same_name (map (λ object. object.0) (due_objects table)) ≡ false

-- the table has as many automatic indexes as keys
abbrev pub has_all_keys : Table → Bool
has_all_keys table = length (filter (λ index. index.is_automatic) table.indexes) == length table.keys

-- What is listed is sound, and each table has the indexes that its keys ask for.
pub record AreIndexed (l : Listed) : Type 0 where
  pub sound : AreSound l
  pub keys : AllByRecursion HasKeyIndexes l.tables

-- ---- what triggers are on

-- each trigger fits what its ON names beside what is listed
abbrev pub AreOnTargets : Listed → Type 0
AreOnTargets l = AllByRecursion (λ trigger. FitsTarget l trigger.definition) l.triggers

-- ---- one more

-- what is told is listed beside the others, under a name that none of them has
pub record AddsTold (item : Told) (old new : Listed) : Type 0 where
  pub fresh : is_name_of old (name_told item) ≡ false
  pub more : AreReordered (bare_told item ∷ parts_of old) (parts_of new)

-- The index can be listed with its table: that is listed, and its name is new. If it is automatic, one of the table's keys asks for it.
pub record CanGrow (l : Listed) (table : Table) (index : Index) : Type 0 where
  pub sound : AreSound l
  pub fresh : is_name_of l index.name ≡ false
  pub due : IsDue table index
  pub due_once : AreDueOnce table
  pub other : Table
  pub listed : table_named table.name l.tables ≡ Some other
  pub alike : bare other ≡ bare table

-- a listed table, which is the table but for its indexes, has the index after its others
pub record IsGrown (tables : List Table) (table : Table) (index : Index) (grown : Table) : Type 0 where
  pub name : Name
  pub other : Table
  pub listed : table_named name tables ≡ Some other
  pub alike : bare other ≡ bare table
  pub grown_is : grown ≡ with_index index other

-- the row tells an index of a new name of a listed table, and that table has it after its others
pub record GrowsBy (l : Listed) (row : SchemaRow) (grown : Table) : Type 0 where
  pub table : Table
  pub index : Index
  pub tells : TellsIndex table index row ⊎ TellsKeyIndex table index row
  pub due : IsDue table index
  pub name : Name
  pub listed : table_named name l.tables ≡ Some table
  pub fresh : is_name_of l index.name ≡ false
  pub grown_is : grown ≡ with_index index table

-- ---- one row, in the pass over tables, views and triggers or in that over indexes

-- whether a pass lists what is told: the first lists tables, views and triggers, the other indexes
abbrev pub is_of_pass : Bool → Told → Bool
is_of_pass true (TableTold table) = true
is_of_pass true (IndexTold table index) = false
is_of_pass true (ViewTold view) = true
is_of_pass true (TriggerTold trigger) = true
is_of_pass false (TableTold table) = false
is_of_pass false (IndexTold table index) = true
is_of_pass false (ViewTold view) = false
is_of_pass false (TriggerTold trigger) = false

-- nothing stands in the way of the pass
abbrev pub CanAdd : Bool → Told → Listed → Type 0
CanAdd true (TableTold table) l = AreSound l × (is_name_of l table.name ≡ false)
CanAdd true (IndexTold table index) l = ⊤
CanAdd true (ViewTold view) l = AreSound l × (is_name_of l view.definition.name ≡ false)
CanAdd true (TriggerTold trigger) l = AreSound l × (is_name_of l trigger.definition.name ≡ false)
CanAdd false (TableTold table) l = ⊤
CanAdd false (IndexTold table index) l = CanGrow l table index
CanAdd false (ViewTold view) l = ⊤
CanAdd false (TriggerTold trigger) l = ⊤

-- what the pass lists is listed, and nothing else
abbrev pub AddsOf : Bool → Told → Listed → Listed → Type 0
AddsOf true (TableTold table) old new = AddsTold (TableTold table) old new
AddsOf true (IndexTold table index) old new = new ≡ old
AddsOf true (ViewTold view) old new = AddsTold (ViewTold view) old new
AddsOf true (TriggerTold trigger) old new = AddsTold (TriggerTold trigger) old new
AddsOf false (TableTold table) old new = new ≡ old
AddsOf false (IndexTold table index) old new = AddsTold (IndexTold table index) old new
AddsOf false (ViewTold view) old new = new ≡ old
AddsOf false (TriggerTold trigger) old new = new ≡ old

-- what the pass lists is listed; or memory was short
abbrev pub ReadsTold : Bool → Told → Listed → Listed → Result ⊤ Fault → Type 0
ReadsTold first item old new result = CanAdd first item old → MatchResult result (λ done. AddsOf first item old new) (λ fault. fault ≡ Memory)

-- the parts of a row tell it
abbrev pub TellsParts : Told → SchemaRow → Type 0
TellsParts (TableTold table) row = (row.kind ≡ kind.Table) × TellsTable table row
TellsParts (IndexTold table index) row = (row.kind ≡ kind.Index) × (TellsIndex table index row ⊎ TellsKeyIndex table index row)
TellsParts (ViewTold view) row = (row.kind ≡ kind.View) × TellsView view row
TellsParts (TriggerTold trigger) row = (row.kind ≡ kind.Trigger) × TellsTrigger trigger row

-- the row of these parts tells what was listed
pub record FindsParts (first : Bool) (row : SchemaRow) (old new : Listed) : Type 0 where
  pub item : Told
  pub pass : is_of_pass first item ≡ true
  pub tells : TellsParts item row
  pub due : IsDueTold item
  pub adds : AddsTold item old new

-- whether the first pass lists what rows of a kind tell
abbrev pub is_kind_first : SchemaKind → Bool
is_kind_first kind.Table = true
is_kind_first kind.Index = false
is_kind_first kind.View = true
is_kind_first kind.Trigger = true

-- the row is of a kind that the first pass lists, or that the other does
abbrev pub IsKind : Bool → Entry → Type 0
IsKind first row = (its_kind : SchemaKind) × (is_kind_first its_kind ≡ first) × (rest : List Value) × IsRecord row.payload (Text (kind_text its_kind) ∷ rest)

-- the row tells what was listed
pub record FindsTold (first : Bool) (pages : ℕ) (row : Entry) (old new : Listed) : Type 0 where
  pub item : Told
  pub pass : is_of_pass first item ≡ true
  pub tells : Tells pages item row
  pub due : IsDueTold item
  pub adds : AddsTold item old new

-- the row tells what was listed, or it is left to the other pass
abbrev pub FindsRow : Bool → ℕ → Entry → Listed → Listed → Type 0
FindsRow first pages row old new = AreSound old → FindsTold first pages row old new ⊎ IsKind (not first) row × (new ≡ old)

-- ---- the rows of a tree

-- one row after another
abbrev pub Finds : Bool → ℕ → List Entry → Listed → Listed → Type 0
Finds first pages [] old new = new ≡ old
Finds first pages (row ∷ rows) old new = (mid : Listed) × FindsRow first pages row old mid × Finds first pages rows mid new

-- what is listed where so much was told and the rest is left: what was told so far but for the indexes, or all that is no index and the indexes
-- told so far
abbrev pub listed_by : Bool → List Told → List Told → List Told
listed_by true before rest = filter (is_of_pass true) before
listed_by false before rest = filter (is_of_pass true) (before ++ rest) ++ filter (is_of_pass false) before

-- What the rows up to here tell is listed, as far as the pass lists it, and the rows that are left tell the rest.
pub record IsLoading (first : Bool) (pages : ℕ) (l : Listed) (left : List Entry) (now : Listed) : Type 0 where
  pub before : List Told
  pub rest : List Told
  pub all : AreReordered (before ++ rest) (all_told l)
  pub each : Pairwise (Tells pages) rest left
  pub listed : AreReordered (map bare_told (listed_by first before rest)) (parts_of now)

-- where these rows come next, what they tell was listed, and the other rows are left; or memory was short
abbrev pub LoadsNext : Bool → ℕ → List Entry → Listed → Listed → Result ⊤ Fault → Type 0
LoadsNext first pages rows old new result = (l : Listed) (after : List Entry) → AreIndexed l
    → IsLoading first pages l (rows ++ after) old → MatchResult result (λ done. IsLoading first pages l after new) (λ fault. fault ≡ Memory)

-- where the rows of a tree under page 1 tell what is listed, what they tell was listed; or memory was short, or a disk's call failed
abbrev pub LoadsRows : Bool → PageMap → ℕ → ℕ → Listed → Listed → Result ⊤ Fault → Type 0
LoadsRows first map size pages old new result = (l : Listed) (rows : List Entry) (used : List ℕ) → AreWhole size map
    → IsTableTree map size 1 rows used → AreIndexed l → IsLoading first pages l rows old
    → MatchResult result (λ done. IsLoading first pages l [] new) IsOutside

-- the rows of a tree under page 1 tell what was listed
abbrev pub FindsRows : Bool → PageMap → ℕ → ℕ → Listed → Listed → Result ⊤ Fault → Type 0
FindsRows first map size pages old new result = (rows : List Entry) (used : List ℕ) → AreWhole size map → IsTableTree map size 1 rows used
    → OnOk result (Finds first pages rows old new)

-- Where a tree under page 1 has rows that tell what is listed, the catalog lists it; or memory was short, or a disk's call failed.
abbrev pub LoadsTree : PageMap → ℕ → ℕ → Result Catalog Fault → Type 0
LoadsTree map size pages result = (l : Listed) (rows : List Entry) (used : List ℕ) → AreWhole size map → IsTableTree map size 1 rows used
    → AreRowsOf pages l rows → are_named_once l ≡ true → AllByRecursion HasKeyIndexes l.tables → AreOnTargets l
    → IsOrOutside (λ catalog. AreAlike l (listed_in catalog)) result

-- where a tree has these rows, they tell what the catalog lists
abbrev pub TellsTree : PageMap → ℕ → ℕ → Result Catalog Fault → Type 0
TellsTree map size pages result = (rows : List Entry) (used : List ℕ) → AreWhole size map → IsTableTree map size 1 rows used
    → IfOk result (λ catalog. AreRowsOf pages (listed_in catalog) rows × (are_named_once (listed_in catalog) ≡ true) × AllByRecursion HasKeyIndexes (tables_of catalog)
    × AreOnTargets (listed_in catalog))
