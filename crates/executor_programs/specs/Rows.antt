-- A row of a change, cut where its triggers stand (SQL As Understood By SQLite, "CREATE TRIGGER").
use Rattle.std.specs.Prelude.{◌≡◌, false, ℕ, ℤ, List, [], ◌∷◌, ◌++◌, map, zip, option_map, Option, Some, None, Ok}
use Rattle.sqlval.specs.Refusals.{Answer, ◌then◌}
use Rattle.sqlval.specs.declared.value.Value.{Value}
use Rattle.sql_syntax.specs.declared.change.Change.{Change}
use Rattle.sql_syntax.specs.declared.create.TriggerTime.TheVariants.{InsteadOf}
use Rattle.catalog.specs.Database as database
use Rattle.catalog.specs.Database.{ATable, Database, Name, row, with_object, without_row}
use Rattle.catalog.specs.Listed.{Listed}
use Rattle.catalog.specs.declared.tables.TableRow as listed
use Rattle.query_names.specs.Checked.{meant}
use Rattle.query_names.specs.Known.{columns_in}
use Rattle.query_names.specs.Readings.{env_of, values}
use Rattle.query_names.specs.declared.scope.ScopeColumn.{ScopeColumn}
use Rattle.query_terms.specs.Terms.{Term}
use Rattle.query_terms.specs.Values.{Row}
use Rattle.row_change.specs.Changes.{Outer}
use Rattle.row_change.specs.Constraints.{default_values, given_rowid, new_rowid, row_of, set_values, shown_rowid, stored, table_of, updated_rowid, with_affinity, with_rowid}
use Rattle.row_change.specs.RowChanges.{Deleting, Event, Fire, Firing, Inserting, Updating, delete_row, firing, insert_row, unchanged, update_row}
use Rattle.trigger.specs.Binding.{aim_of}
use Rattle.trigger.specs.Effects.{nulls, view_row}
use Rattle.trigger_names.specs.Resolved.{names_set}
use Rattle.executor_programs.specs.declared.acts.Act.{Act}
use Rattle.executor_programs.specs.declared.acts.TableItem.{TableItem}
use Rattle.executor_programs.specs.declared.acts.TableItem.TheVariants as item
use Rattle.executor_programs.specs.declared.acts.ViewItem.{ViewItem}
use Rattle.executor_programs.specs.declared.acts.ViewItem.TheVariants as seen

-- the row, if there is one, is in the table of this name
abbrev pub IsInTable : Database → Name → Option listed.TableRow → Type 0
IsInTable db name o = (t : database.Table) (r : listed.TableRow) → table_of db name ≡ Ok t → o ≡ Some r → row t r.rowid ≡ Some r.values.items

-- ---- a row of a table

-- what a change does to a row, with the triggers around it
abbrev pub row_changed : Fire → Outer → Change → Act → TableItem → Database → Answer Database
row_changed fire outer c act (item.Insert given) db = insert_row fire (aim_of c).target act.places.items db given.items
row_changed fire outer c act (item.Update id) db = update_row fire outer (aim_of c).target act.sets.items (names_set c) db id
row_changed fire outer c act (item.Delete id) db = delete_row fire (aim_of c).target db id

-- what SET gives over a row, beside NEW and OLD
abbrev pub set_beside : Outer → List (ℕ × Term) → Row → Answer (List Value)
set_beside outer sets r = values (env_of (outer.rows ++ r ∷ [])) (map (λ s. s.1) sets) then λ given. Ok (set_values r.values (zip (map (λ s. s.0) sets) given))

-- what an INSERT's event is, or why its values are refused
abbrev pub inserted_before : Name → List ℕ → database.Table → List Value → Answer (Option Firing)
inserted_before n places t given =
    with_affinity t.columns (set_values (default_values t) (zip places given)) then λ vs.
    Ok (Some (firing n Inserting t (Some (record { rowid = given_rowid t vs; values = vs })) None))

-- that of an UPDATE: none where the row is gone
abbrev pub updated_before : Outer → Name → List (ℕ × Term) → List Name → database.Table → ℤ → Option (List Value) → Answer (Option Firing)
updated_before outer n sets set t id None = Ok None
updated_before outer n sets set t id (Some old) =
    set_beside outer sets (row_of id old) then λ new. with_affinity t.columns new then λ vs.
    Ok (Some (firing n (Updating set) t (Some (record { rowid = shown_rowid t id vs; values = vs })) (Some (row_of id old))))

-- the event at the row before its triggers run: none where the row is gone
abbrev pub begun : Outer → Change → Act → TableItem → Database → Answer (Option Firing)
begun outer c act (item.Insert given) db = table_of db (aim_of c).target then λ t. inserted_before (aim_of c).target act.places.items t given.items
begun outer c act (item.Update id) db = table_of db (aim_of c).target then λ t. updated_before outer (aim_of c).target act.sets.items (names_set c) t id (row t id)
begun outer c act (item.Delete id) db =
    table_of db (aim_of c).target then λ t. Ok (option_map (λ old. firing (aim_of c).target Deleting t None (Some (row_of id old))) (row t id))

-- the values of a row, if there is one
abbrev pub values_in : Option Row → List Value
values_in None = []
values_in (Some r) = r.values

-- the database after the change of the row, and the event as it is then
abbrev pub finished : Change → TableItem → Firing → Database → Answer (Database × Firing)
finished c (item.Insert given) f db =
    let n = (aim_of c).target in
    let vs = values_in f.new in
    table_of db n then λ t. new_rowid t (given_rowid t vs) then λ id. stored db n t id (with_rowid t id vs) then λ db.
    Ok (db, firing n Inserting t (Some (row_of id (with_rowid t id vs))) None)
finished c (item.Update id) f db =
    let n = (aim_of c).target in
    let vs = values_in f.new in
    unchanged db n id (values_in f.old) then λ t. updated_rowid t id vs then λ now. stored db n (without_row id t) now vs then λ db.
    Ok (db, firing n (Updating (names_set c)) t (Some (row_of now vs)) (Some (row_of id (values_in f.old))))
finished c (item.Delete id) f db =
    let n = (aim_of c).target in
    unchanged db n id (values_in f.old) then λ t.
    Ok (with_object db n (ATable (without_row id t)), firing n Deleting t None (Some (row_of id (values_in f.old))))

-- ---- a row of a view

-- the columns of a listed table or view
abbrev pub columns_listed_of : Listed → Name → List ScopeColumn
columns_listed_of l n = (meant (columns_in 64 l [] n)).0

-- NEW and OLD of a row of a view of these columns
abbrev pub rows_seen : Outer → List ScopeColumn → Act → ViewItem → Answer (Option Row × Option Row)
rows_seen outer cs act (seen.Insert given) = Ok (Some (view_row (set_values (nulls cs) (zip act.places.items given.items))), None)
rows_seen outer cs act (seen.Update r) = set_beside outer act.sets.items r then λ vs. Ok (Some (view_row vs), Some r)
rows_seen outer cs act (seen.Delete r) = Ok (None, Some r)

-- the event at a row of a view
abbrev pub firing_seen : Name → Event → List ScopeColumn → Option Row × Option Row → Firing
firing_seen n event cs rows = record { target = n; event = event; columns = cs; has_rowid = false; new = rows.0; old = rows.1 }

-- its triggers stand in the place of its change
abbrev pub seen_changed : Fire → Outer → Change → List ScopeColumn → Act → ViewItem → Database → Answer Database
seen_changed fire outer c cs act row db = rows_seen outer cs act row then λ rows. fire InsteadOf (firing_seen (aim_of c).target (aim_of c).event cs rows) db
