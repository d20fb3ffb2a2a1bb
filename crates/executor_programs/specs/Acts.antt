-- A change whose names are looked up, with all rows that it is about (SQL As Understood By SQLite, "INSERT", "UPDATE", "DELETE", "CREATE TRIGGER").
use Rattle.std.specs.Prelude.{◌≡◌, ◌⊎◌, ⊤, ℕ, Bool, false, true, List, [], length, Some, None, Err, Result, MatchResult}
use Rattle.std.specs.List.{AllByRecursion}
use Rattle.std.specs.declared.alloc.Global.{Global}
use Rattle.std.specs.declared.rc.Rc.{Rc}
use Rattle.sqlval.specs.Faults.{IsOutside}
use Rattle.sqlval.specs.Refusals.{Answer, fold_answer, refusal_of}
use Rattle.sqlval.specs.declared.fault.Fault.{Fault}
use Rattle.sql_syntax.specs.declared.change.Change.{Change}
use Rattle.sql_syntax.specs.declared.create.TriggerTime.{TriggerTime}
use Rattle.sql_syntax.specs.declared.create.TriggerTime.TheVariants.{Before, After, InsteadOf}
use Rattle.pages.specs.Map.{PageMap}
use Rattle.catalog.specs.Database.{Database, Name}
use Rattle.catalog.specs.Listed.{Listed, table_named}
use Rattle.catalog.specs.declared.tables.Table.{Table}
use Rattle.catalog.specs.declared.tables.Trigger.{Trigger}
use Rattle.query_names.specs.Checked.{Meant, meant}
use Rattle.query_names.specs.Known.{columns_in}
use Rattle.query_names.specs.declared.scope.ScopeSource.{ScopeSource}
use Rattle.query_bind.specs.Named.{AreOuter}
use Rattle.row_change.specs.Agreement.{IsSetFor}
use Rattle.row_change.specs.Changes.{Outer, resolve_change}
use Rattle.row_change.specs.RowChanges.{Deleting, Fire, Firing, Inserting, Updating}
use Rattle.trigger.specs.Binding.{Aim, aim_of}
use Rattle.trigger.specs.Effects.{change_with}
use Rattle.trigger.specs.Triggers.{Runner, fired, outer_of, triggers_at}
use Rattle.trigger_bind.specs.Knowing.{IsLookedUpAs}
use Rattle.trigger_names.specs.Programs.{HasRowsOf}
use Rattle.trigger_names.specs.Resolved.{names_set, resolved_of}
use Rattle.trigger_names.specs.declared.changes.BoundChange.{BoundChange}
use Rattle.executor_programs.specs.Rows.{IsInTable, columns_listed_of, row_changed, seen_changed}
use Rattle.db_pages.specs.Stored.{Stores}
use Rattle.executor_programs.specs.Outer.{Shows}
use Rattle.executor_programs.specs.Running.{KnowsNames, OnEach, definitions}
use Rattle.executor_programs.specs.declared.acts.Act.{Act}
use Rattle.executor_programs.specs.declared.acts.TableItem.{TableItem}
use Rattle.executor_programs.specs.declared.acts.TableItem.TheVariants as item
use Rattle.executor_programs.specs.declared.acts.ViewItem.{ViewItem}
use Rattle.executor_programs.specs.declared.acts.ViewItem.TheVariants as row_seen
use Rattle.executor_programs.specs.declared.acts.Work.{Work}
use Rattle.executor_programs.specs.declared.acts.Work.TheVariants as work
use Rattle.executor_programs.specs.declared.outer.OuterRows.{OuterRows}

-- an event at a row of the listed table or view that is aimed at
pub record IsRowIn (l : Listed) (aim : Aim) (f : Firing) : Type 0 where
  pub target : f.target ≡ aim.target
  pub event : f.event ≡ aim.event
  pub columns : f.columns ≡ columns_listed_of l aim.target
  pub has_rowid : f.has_rowid ≡ (meant (columns_in 64 l [] aim.target)).1
  pub has : HasRowsOf aim.event f

-- a change of a table around which no trigger stands
abbrev pub IsBareAct : TriggerTime → Act → Type 0
IsBareAct time act = (time ≡ Before) × ((length act.before.items ≡ 0) × (length act.after.items ≡ 0))

-- The triggers around each row are those that the change sets off, before it or in its place and after it, and see NEW and OLD of the row.
pub record IsAct (l : Listed) (c : Change) (time : TriggerTime) (act : Act) : Type 0 where
  pub scope : (f : Firing) → (IsBareAct time act → ⊥) → IsRowIn l (aim_of c) f → act.scope.items ≡ (outer_of f).scope
  pub known : AreOuter act.scope.items
  pub before : OnEach l (λ db. definitions act.before.items ≡ triggers_at time (aim_of c).event db (aim_of c).target)
  pub after : OnEach l (λ db. definitions act.after.items ≡ triggers_at After (aim_of c).event db (aim_of c).target)

-- These are the triggers that the change sets off at a time, with what they see of a row.
pub record AreSetOff (l : Listed) (c : Change) (time : TriggerTime) (scope : List ScopeSource) (triggers : List (Rc Trigger Global)) : Type 0 where
  pub sees : (f : Firing) → (length triggers ≡ 0 → ⊥) → IsRowIn l (aim_of c) f → scope ≡ (outer_of f).scope
  pub known : AreOuter scope
  pub those : OnEach l (λ db. definitions triggers ≡ triggers_at time (aim_of c).event db (aim_of c).target)

-- of a listed table
pub record IsTableAct (l : Listed) (c : Change) (table : Table) (act : Act) : Type 0 where
  pub around : IsAct l c Before act
  pub named : table_named (aim_of c).target l.tables ≡ Some table

-- of a listed view
pub record IsViewAct (l : Listed) (c : Change) (width : ℕ) (act : Act) : Type 0 where
  pub around : IsAct l c InsteadOf act
  pub named : table_named (aim_of c).target l.tables ≡ None
  pub wide : length (columns_listed_of l (aim_of c).target) ≡ width

-- the item is of the change's kind, and an INSERT gives a value for each place
abbrev pub IsItemOf : Change → Table → Act → TableItem → Type 0
IsItemOf c table act (item.Insert given) = (Inserting ≡ (aim_of c).event) × IsSetFor table act.by_column.items act.places.items given.items
IsItemOf c table act (item.Update id) = Updating (names_set c) ≡ (aim_of c).event
IsItemOf c table act (item.Delete id) = Deleting ≡ (aim_of c).event

-- the item is of the change's kind
abbrev pub IsSeenOf : Change → ViewItem → Type 0
IsSeenOf c (row_seen.Insert given) = Inserting ≡ (aim_of c).event
IsSeenOf c (row_seen.Update r) = Updating (names_set c) ≡ (aim_of c).event
IsSeenOf c (row_seen.Delete r) = Deleting ≡ (aim_of c).event

-- what is to be done is as the listed table or view has it
abbrev pub IsWork : Listed → Change → Work → Type 0
IsWork l c (work.Table table act items first) = IsTableAct l c table.now act × AllByRecursion (IsItemOf c table.now act) items.items
IsWork l c (work.View width act items) = IsViewAct l c width act × AllByRecursion (IsSeenOf c) items.items

-- row after row is changed
abbrev pub work_done : Listed → Fire → Outer → Change → Work → Database → Answer Database
work_done l fire outer c (work.Table table act items first) db = fold_answer (λ db i. row_changed fire outer c act i db) db items.items
work_done l fire outer c (work.View width act items) db = fold_answer (λ db i. seen_changed fire outer c (columns_listed_of l (aim_of c).target) act i db) db items.items

-- when the triggers run that run first: before a change of a table, in the place of one of a view
abbrev pub time_before : Bool → TriggerTime
time_before true = Before
time_before false = InsteadOf

-- the triggers around each row, where the source is the listed table or view that the change names
abbrev pub ActsAround : Listed → ScopeSource → Change → TriggerTime → Act → Type 0
ActsAround l source c time act = source.columns ≡ columns_listed_of l (aim_of c).target → source.has_rowid ≡ (meant (columns_in 64 l [] (aim_of c).target)).1 → IsAct l c time act

-- the row that is known is in the table
abbrev pub KnowsFirst : Change → Database → Work → Type 0
KnowsFirst c db (work.Table table act items first) = IsInTable db (aim_of c).target first
KnowsFirst c db (work.View width act items) = ⊤

-- the change comes to this work
pub record IsWorkOf (l : Listed) (seen : Outer) (c : Change) (db : Database) (w : Work) : Type 0 where
  pub work : IsWork l c w
  pub first : KnowsFirst c db w
  pub done : (run : Runner) (running : List Name) → change_with run running seen db c ≡ work_done l (fired run running) seen c w db

-- the change comes to this work, or is refused as the definition is, for want of memory, or by a disk
abbrev pub ComesTo : Listed → Outer → Change → Database → Result Work Fault → Type 0
ComesTo l seen c db result = MatchResult result (IsWorkOf l seen c db)
    (λ f. IsOutside f ⊎ ((run : Runner) (running : List Name) → change_with run running seen db c ≡ Err (refusal_of f)))

-- What a change comes to whose names were looked up and are known, or why it is refused.
abbrev pub ChangesAs : PageMap → ℕ → Listed → OuterRows → Change → BoundChange → Result Work Fault → Type 0
ChangesAs pages size l o c bound result = (db : Database) (seen : Outer) → Stores pages size l db → Shows o seen → KnowsNames l seen c → IsLookedUpAs l o.scope.now c bound
    → ComesTo l seen c db result

-- What a change comes to whose names were looked up, beside what the program sees.
abbrev pub WorksAs : PageMap → ℕ → Listed → OuterRows → Change → BoundChange → Result Work Fault → Type 0
WorksAs pages size l o c bound result = (db : Database) (seen : Outer) → Stores pages size l db → Shows o seen
    → resolve_change db seen c ≡ Meant (resolved_of c bound) [] → ComesTo l seen c db result
