-- INSERT, UPDATE and DELETE at one row of a table, with the triggers around it (SQL As Understood By SQLite, "CREATE TRIGGER", "Syntax And Examples").
use Rattle.std.specs.Prelude.{ℕ, Bool, true, false, not, List, [], ◌∷◌, ◌++◌, map, ℤ, Option, Some, None, Ok, zip}
use Rattle.std.specs.Cmp.Lexicographic.{pointwise}
use Rattle.std.specs.List.{list_any}
use Rattle.sqlval.specs.Names.{is_same_name}
use Rattle.sqlval.specs.Refusals.{Answer, ◌then◌, RowChangedBefore}
use Rattle.sqlval.specs.Sameness.{is_same_value}
use Rattle.sqlval.specs.declared.value.Value.{Value}
use Rattle.sql_syntax.specs.declared.create.TriggerEvent.{TriggerEvent}
use Rattle.sql_syntax.specs.declared.create.TriggerEvent.TheVariants.{Insert, Delete, Update}
use Rattle.sql_syntax.specs.declared.create.TriggerTime.{TriggerTime}
use Rattle.sql_syntax.specs.declared.create.TriggerTime.TheVariants.{Before, After}
use Rattle.catalog.specs.Database.{Name, Database, with_object, ATable, Table, row, triggers_of, without_row}
use Rattle.query_names.specs.Readings.{env_of, values}
use Rattle.query_names.specs.Scopes.{table_scope}
use Rattle.query_names.specs.declared.scope.ScopeColumn.{ScopeColumn}
use Rattle.query_terms.specs.Terms.{Term}
use Rattle.query_terms.specs.Values.{Row}
use Rattle.row_change.specs.Changes.{Outer}
use Rattle.row_change.specs.Constraints.{table_of, with_affinity, given_rowid, shown_rowid, new_rowid, updated_rowid, with_rowid, row_of, stored, default_values, set_values, demand}

-- what happens to a row; an update with the folded names of the columns that SET names
pub data Event : Type 0 where
  Inserting Deleting : Event
  Updating : List Name → Event

-- UPDATE OF is set off where SET names one of its columns
abbrev pub is_set_off : TriggerEvent → Event → Bool
is_set_off Insert Inserting = true
is_set_off Delete Deleting = true
is_set_off (Update None) (Updating set) = true
is_set_off (Update (Some ns)) (Updating set) = list_any (λ n. list_any (is_same_name n) set) ns
is_set_off _ _ = false

-- the event sets no trigger of that table or view off, of whatever time
abbrev pub is_quiet : Event → Database → Name → Bool
is_quiet event db target = not (list_any (λ t. is_set_off t.1.event event) (triggers_of db target))

-- an event at one row of a table or view: NEW and OLD as they are there
pub record Firing : Type 0 where
  -- folded
  pub target : Name
  pub event : Event
  pub columns : List ScopeColumn
  pub has_rowid : Bool
  pub new : Option Row
  pub old : Option Row

-- what the triggers of a time do at an event
abbrev pub Fire : Type 0
Fire = TriggerTime → Firing → Database → Answer Database

-- an event at a row of a table
abbrev pub firing : Name → Event → Table → Option Row → Option Row → Firing
firing n event t new old = record { target = n; event = event; columns = table_scope t; has_rowid = true; new = new; old = old }

-- The values, each for the column of its place. The triggers before it come before the rowid is settled and the constraints are looked at;
-- the triggers after it see the row in the table.
abbrev pub insert_row : Fire → Name → List ℕ → Database → List Value → Answer Database
insert_row fire n places db given =
    table_of db n then λ t.
    with_affinity t.columns (set_values (default_values t) (zip places given)) then λ vs.
    fire Before (firing n Inserting t (Some (record { rowid = given_rowid t vs; values = vs })) None) db then λ db.
    table_of db n then λ t.
    new_rowid t (given_rowid t vs) then λ id.
    stored db n t id (with_rowid t id vs) then λ db.
    fire After (firing n Inserting t (Some (row_of id (with_rowid t id vs))) None) db

abbrev pub same_row : Option (List Value) → List Value → Bool
same_row None vs = false
same_row (Some ws) vs = pointwise is_same_value ws vs

-- the row as it was before its BEFORE triggers
abbrev pub unchanged : Database → Name → ℤ → List Value → Answer Table
unchanged db n id vs = table_of db n then λ t. demand (same_row (row t id) vs) RowChangedBefore then λ _. Ok t

-- What SET gives, over the row that has the rowid now; a row that is gone is passed over.
abbrev pub update_row : Fire → Outer → Name → List (ℕ × Term) → List Name → Database → ℤ → Answer Database
update_row fire outer n sets set db id =
    table_of db n then λ t.
    elim (row t id) [
      | None ↦ Ok db
      | Some old ↦ (
          values (env_of (outer.rows ++ row_of id old ∷ [])) (map (λ s. s.1) sets) then λ given.
          with_affinity t.columns (set_values old (zip (map (λ s. s.0) sets) given)) then λ vs.
          fire Before (firing n (Updating set) t (Some (record { rowid = shown_rowid t id vs; values = vs })) (Some (row_of id old))) db then λ db.
          unchanged db n id old then λ t.
          updated_rowid t id vs then λ id'.
          stored db n (without_row id t) id' vs then λ db.
          fire After (firing n (Updating set) t (Some (row_of id' vs)) (Some (row_of id old))) db)
    ]

-- the row that has the rowid now; one that is gone is passed over
abbrev pub delete_row : Fire → Name → Database → ℤ → Answer Database
delete_row fire n db id =
    table_of db n then λ t.
    elim (row t id) [
      | None ↦ Ok db
      | Some old ↦ (
          fire Before (firing n Deleting t None (Some (row_of id old))) db then λ db.
          unchanged db n id old then λ t.
          fire After (firing n Deleting t None (Some (row_of id old))) (with_object db n (ATable (without_row id t))))
    ]
