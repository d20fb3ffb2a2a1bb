-- What a trigger's program sees, and the refusals of its own names (SQL As Understood By SQLite, "CREATE TRIGGER").
use Rattle.std.specs.Prelude.{◌≡◌, ⊤, ℕ, ℤ, true, List, [], Option, Result, Ok, Err}
use Rattle.sqlval.specs.Names.{folded}
use Rattle.sqlval.specs.Refusals.{Refusal}
use Rattle.sqlval.specs.declared.fault.Fault.{Fault}
use Rattle.sqlval.specs.declared.value.Value.{Value}
use Rattle.sql_syntax.specs.Tree.{Tree}
use Rattle.sql_syntax.specs.declared.create.TriggerDefinition.{TriggerDefinition}
use Rattle.sql_syntax.specs.declared.create.TriggerEvent.{TriggerEvent}
use Rattle.sql_syntax.specs.declared.create.TriggerEvent.TheVariants.{Insert, Delete, Update}
use Rattle.catalog.specs.Database.{Database}
use Rattle.catalog.specs.Listed.{Listed}
use Rattle.catalog.specs.Named.{IsOfListed}
use Rattle.query_names.specs.Bound.{IsFaultOf}
use Rattle.query_names.specs.Checked.{is_good}
use Rattle.query_names.specs.Views.{look_up}
use Rattle.query_names.specs.declared.scope.ScopeSource.{ScopeSource}
use Rattle.query_terms.specs.Values.{Row}
use Rattle.query_bind.specs.Named.{AreOuter}
use Rattle.row_change.specs.Changes.{Outer}
use Rattle.row_change.specs.RowChanges.{Event, Inserting, Deleting, Updating}
use Rattle.trigger.specs.Binding.{Aim, faults_after, program_faults, program_scope, when_faults}

-- the event that a trigger waits for, whatever columns stand after OF
abbrev pub event_awaited : TriggerEvent → Event
event_awaited Insert = Inserting
event_awaited Delete = Deleting
event_awaited (Update columns) = Updating []

-- the rows that a trigger waits for, and the event
abbrev pub aim_awaited : TriggerDefinition → Aim
aim_awaited d = record { target = folded d.target; event = event_awaited d.event }

-- the refusals of a trigger's program after a chain of so many others
abbrev pub faults_within : ℕ → Database → TriggerDefinition → List Refusal
faults_within n db d = program_faults (faults_after n db) db (program_scope db (aim_awaited d)) d

-- there are no refusals, or the fault is one of them, or no memory
abbrev pub Knows : List Refusal → Result ⊤ Fault → Type 0
Knows rs (Ok done) = rs ≡ []
Knows rs (Err f) = IsFaultOf rs f

-- what is looked up beside these sources, on each database of which this is listed
abbrev pub KnowsBeside : Listed → List ScopeSource → (Database → Outer → List Refusal) → Result ⊤ Fault → Type 0
KnowsBeside l scope refusals result = (rows_at : ℕ → List (ℤ × List Value)) (db : Database) (rows : List Row) → AreOuter scope
    → IsOfListed rows_at l db → Knows (refusals db (record { scope = scope; rows = rows })) result

-- a WHEN beside these sources
abbrev pub KnowsWhen : List ScopeSource → Option Tree → Result ⊤ Fault → Type 0
KnowsWhen scope condition result = (rows : List Row) → Knows (when_faults (record { scope = scope; rows = rows }) condition) result

-- the table or view that a trigger is on isn't refused
pub record HasTarget (db : Database) (d : TriggerDefinition) : Type 0 where
  pub good : is_good (look_up db (folded d.target)) ≡ true

-- The names of a trigger's WHEN and program themselves, where its table or view isn't refused.
abbrev pub KnowsItself : Listed → TriggerDefinition → Result ⊤ Fault → Type 0
KnowsItself l d result = (rows_at : ℕ → List (ℤ × List Value)) (db : Database) → IsOfListed rows_at l db
    → HasTarget db d → Knows (faults_within 0 db d) result
