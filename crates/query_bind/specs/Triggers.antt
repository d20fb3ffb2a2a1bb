-- CREATE TRIGGER, whose names are looked up beside what is listed; its program isn't looked at (SQL As Understood By SQLite, "CREATE TRIGGER").
use Rattle.std.specs.Prelude.{◌≡◌, ◌⊎◌, ℕ, ℤ, true, false, List, [], Option, Some, None, option_map}
use Rattle.std.specs.List.{Contains}
use Rattle.sqlval.specs.Refusals.{Refusal, Exists, Misuse}
use Rattle.sqlval.specs.declared.value.Value.{Value}
use Rattle.sql_syntax.specs.declared.create.NewObject.TheVariants as new
use Rattle.sql_syntax.specs.declared.create.TriggerDefinition.{TriggerDefinition}
use Rattle.catalog.specs.Database.{Database, Object, ATable, AView, ATrigger, object, with_object}
use Rattle.catalog.specs.Listed.{Listed, Lists, as_view, is_name_of, is_reserved, table_named, view_named, with_rows}
use Rattle.catalog.specs.declared.tables.Table.{Table}
use Rattle.catalog.specs.declared.tables.View.{View}
use Rattle.query_names.specs.Checked.{Checked, faults, good}
use Rattle.query_names.specs.Schema.{create, trigger_made}

-- a table without its rows, or else a view
abbrev pub target_among : Option Table → Option View → Option Object
target_among (Some t) v = Some (ATable (with_rows t []))
target_among None v = option_map (λ v. AView (as_view v)) v

-- the trigger beside the listed table or view that its ON names
abbrev pub trigger_listed : Listed → TriggerDefinition → Checked Object
trigger_listed l d = trigger_made (target_among (table_named d.target l.tables) (view_named d.target l.views)) d

-- It is listed, as a table for BEFORE and AFTER, with each column after OF, or as a view for INSTEAD OF.
abbrev pub FitsTarget : Listed → TriggerDefinition → Type 0
FitsTarget l d = trigger_listed l d ≡ good (ATrigger d)

-- nothing is in the way of a trigger
pub record IsTriggerOn (l : Listed) (d : TriggerDefinition) : Type 0 where
  pub free : is_reserved d.name ≡ false
  pub new : is_name_of l d.name ≡ false
  pub fits : FitsTarget l d

-- Why a definition is refused beside what is listed: its name is reserved, an object has it, or it doesn't fit what its ON names.
abbrev pub IsTriggerRefusal : Listed → TriggerDefinition → Refusal → Type 0
IsTriggerRefusal l d r =
    (r ≡ Misuse) × (is_reserved d.name ≡ true)
    ⊎ (((r ≡ Exists) × (is_name_of l d.name ≡ true))
    ⊎ Contains (faults (trigger_listed l d)) r)

-- beside what is listed it is what it is on the database
abbrev pub KnowsTriggers : Type 0
KnowsTriggers = (rows_at : ℕ → List (ℤ × List Value)) (l : Listed) (db : Database) (d : TriggerDefinition) → Lists rows_at l db → trigger_made (object db d.target) d ≡ trigger_listed l d

-- A trigger that nothing is in the way of is the one that CREATE TRIGGER makes, under its name.
abbrev pub MakesListedTrigger : Type 0
MakesListedTrigger = (rows_at : ℕ → List (ℤ × List Value)) (l : Listed) (db : Database) (d : TriggerDefinition) → Lists rows_at l db → IsTriggerOn l d
    → create db (new.Trigger d) ≡ good (with_object db d.name (ATrigger d))

-- Why a definition is refused beside what is listed is among the refusals of its CREATE TRIGGER.
abbrev pub RefusesTriggerAsDefined : Type 0
RefusesTriggerAsDefined = (rows_at : ℕ → List (ℤ × List Value)) (l : Listed) (db : Database) (d : TriggerDefinition) (r : Refusal)
    → Lists rows_at l db → IsTriggerRefusal l d r → Contains (faults (create db (new.Trigger d))) r
