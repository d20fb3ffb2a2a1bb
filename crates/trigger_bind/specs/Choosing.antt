-- Which of the listed triggers are set off, and their order (SQL As Understood By SQLite, "CREATE TRIGGER").
use Rattle.std.specs.Prelude.{Bool, false, ◌&&◌, List}
use Rattle.std.specs.List.{list_any}
use Rattle.std.specs.declared.cmp.Ordering.{Ordering}
use Rattle.sqlval.specs.Names.{folded}
use Rattle.sql_syntax.specs.declared.change.Change.{Change}
use Rattle.sql_syntax.specs.declared.create.TriggerDefinition.{TriggerDefinition}
use Rattle.sql_syntax.specs.declared.create.TriggerStatement.{TriggerStatement}
use Rattle.sql_syntax.specs.declared.create.TriggerStatement.TheVariants as program
use Rattle.sql_syntax.specs.declared.create.TriggerTime.{TriggerTime}
use Rattle.catalog.specs.Database.{Name, name_order}
use Rattle.catalog.specs.Listed.{is_on}
use Rattle.catalog.specs.declared.tables.Trigger.{Trigger}
use Rattle.row_change.specs.RowChanges.{Event, is_set_off}
use Rattle.trigger.specs.Binding.{aim_of}
use Rattle.trigger.specs.Triggers.{is_same_time}

-- a trigger, under its folded name
abbrev pub named_definition : Trigger → Name × TriggerDefinition
named_definition t = (folded t.definition.name, t.definition)

-- by folded names
abbrev pub by_name : Trigger → Trigger → Ordering
by_name a b = name_order (folded a.definition.name) (folded b.definition.name)

-- an event at the table or view of this name sets a trigger of this time off
abbrev pub is_at : TriggerTime → Event → Name → Trigger → Bool
is_at time event target t = is_same_time t.definition.time time && (is_on target t && is_set_off t.definition.event event)

-- a change sets the trigger off, at whatever time
abbrev pub is_set_off_by : Change → Trigger → Bool
is_set_off_by c t = is_on (aim_of c).target t && is_set_off t.definition.event (aim_of c).event

-- a statement of a program does
abbrev pub sets_off_in : TriggerStatement → Trigger → Bool
sets_off_in (program.Change c) t = is_set_off_by c t
sets_off_in (program.Select q) t = false

-- one of these statements does
abbrev pub sets_off_within : List TriggerStatement → Trigger → Bool
sets_off_within body t = list_any (λ s. sets_off_in s t) body
