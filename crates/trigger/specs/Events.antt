-- The events of statements that change rows, and the triggers that they set off (SQL As Understood By SQLite, "CREATE TRIGGER").
use Rattle.std.specs.Prelude.{map}
use Rattle.sqlval.specs.Names.{folded}
use Rattle.row_change.specs.RowChanges.{Deleting, Event, Inserting, Updating}
use Rattle.trigger.specs.declared.events.RowEvent.{RowEvent}
use Rattle.trigger.specs.declared.events.RowEvent.TheVariants as row

-- the event, with the folded names of the columns that SET names
abbrev pub event_of : RowEvent → Event
event_of row.Insert = Inserting
event_of row.Delete = Deleting
event_of (row.Update assignments) = Updating (map (λ a. folded a.column) assignments.now)
