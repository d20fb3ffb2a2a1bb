-- What a trigger's program sees of the row that it runs at (SQL As Understood By SQLite, "CREATE TRIGGER").
use Rattle.std.specs.Prelude.{◌≡◌, Bool, true, false, if◌then◌else◌, is_some, List, [], ◌∷◌}
use Rattle.sql_syntax.specs.declared.change.Change.{Change}
use Rattle.catalog.specs.Database.{Database, Name}
use Rattle.query_names.specs.Checked.{is_good, meant}
use Rattle.query_names.specs.Views.{look_up}
use Rattle.query_names.specs.declared.scope.ScopeSource.{ScopeSource}
use Rattle.row_change.specs.RowChanges.{Event, Firing, Inserting, Deleting}
use Rattle.trigger.specs.Binding.{aim_of, program_scope}
use Rattle.trigger.specs.Triggers.{outer_of}

-- the event has a row as it is after it
abbrev pub has_new : Event → Bool
has_new Deleting = false
has_new _ = true

-- the event has a row as it was before it
abbrev pub has_old : Event → Bool
has_old Inserting = false
has_old _ = true

-- a row of this table or view, under the name by which programs see it
abbrev pub row_named : Name → ScopeSource → ScopeSource
row_named n s = record { name = n; columns = s.columns; has_rowid = s.has_rowid; needs_name = true; is_known = true }

-- the row, where there is one
abbrev pub row_if : Bool → Name → ScopeSource → List ScopeSource
row_if is_there n s = if is_there then (row_named n s ∷ []) else []

-- there are NEW and OLD as the event has them
abbrev pub HasRowsOf : Event → Firing → Type 0
HasRowsOf event f = (is_some f.new ≡ has_new event) × (is_some f.old ≡ has_old event)

-- what programs see that a change can set off is what they see at each row, where its table or view isn't refused
abbrev pub SeeRows : Type 0
SeeRows = (db : Database) (c : Change) (firing : Firing) → is_good (look_up db (aim_of c).target) ≡ true
    → firing.columns ≡ (meant (look_up db (aim_of c).target)).0 → firing.has_rowid ≡ (meant (look_up db (aim_of c).target)).1
    → HasRowsOf (aim_of c).event firing → (program_scope db (aim_of c)).scope ≡ (outer_of firing).scope
