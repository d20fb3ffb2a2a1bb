-- A statement that changes rows: the database after it, or the first refusal (SQL As Understood By SQLite, "INSERT", "UPDATE", "DELETE", "CREATE TRIGGER").
use Rattle.std.specs.Prelude.{ℕ, zero, suc, Bool, true, false, List, [], ◌∷◌, ◌++◌, map, length, ℤ, pos, Option, Some, None, Ok, Err, if◌then◌else◌, nat_lt, flat_map, zip}
use Rattle.sqlval.specs.Refusals.{Answer, ◌then◌, TooLong, ViewReadOnly, all_answers, fold_answer}
use Rattle.sqlval.specs.declared.value.Value.{Value}
use Rattle.sqlval.specs.declared.value.Value.TheVariants.{Null, Int}
use Rattle.sql_syntax.specs.declared.change.Change.{Change}
use Rattle.sql_syntax.specs.declared.create.TriggerStatement.{TriggerStatement}
use Rattle.sql_syntax.specs.declared.create.TriggerStatement.TheVariants as program
use Rattle.sql_syntax.specs.declared.create.TriggerTime.TheVariants.{InsteadOf}
use Rattle.catalog.specs.Database.{Name, Database, object, Object, ATable}
use Rattle.query_names.specs.Checked.{meant, known_then}
use Rattle.query_names.specs.Queries.{resolve_query}
use Rattle.query_names.specs.Readings.{env_of, values, holds}
use Rattle.query_names.specs.declared.scope.ScopeColumn.{ScopeColumn}
use Rattle.query_terms.specs.Terms.{Term}
use Rattle.query_terms.specs.Values.{Row}
use Rattle.query_names.specs.Views.{look_up, all_rows, answer_of}
use Rattle.row_change.specs.Changes.{Outer, no_outer, Given, GivenRows, GivenQuery, Resolved, Inserts, Updates, Deletes, resolve_change}
use Rattle.row_change.specs.Constraints.{set_values, demand}
use Rattle.row_change.specs.RowChanges.{Event, Inserting, Deleting, Updating, insert_row, update_row, delete_row}
use Rattle.trigger.specs.Triggers.{Runner, fired, triggers_at}

-- ---- the rows that are changed

-- the rows that an INSERT gives: all are known before the first is stored
abbrev pub given_rows : Database → Outer → Given → Answer (List (List Value))
given_rows db outer (GivenRows rows) = all_answers (map (values (env_of outer.rows)) rows)
given_rows db outer (GivenQuery q) = answer_of db outer.rows q

-- the row, where WHERE keeps it
abbrev pub chosen : Outer → Option Term → Row → Answer (List Row)
chosen outer None r = Ok (r ∷ [])
chosen outer (Some w) r = holds w (outer.rows ++ r ∷ []) then elim [ Some true ↦ Ok (r ∷ []) | _ ↦ Ok [] ]

-- the rows of a table or view that WHERE keeps: all are chosen before the first is changed
abbrev pub chosen_rows : Database → Outer → Name → Option Term → Answer (List Row)
chosen_rows db outer n w = all_rows db n then λ rows. all_answers (map (chosen outer w) rows) then λ rs. Ok (flat_map (λ r. r) rs)

-- its rowid
abbrev pub id_of : Row → ℤ
id_of r = elim r.rowid [ Int z ↦ z | _ ↦ pos 0 ]

-- ---- a row of a view: its triggers run, and nothing is stored

-- the columns of a table or view
abbrev pub scope_of : Database → Name → List ScopeColumn
scope_of db n = (meant (look_up db n)).0

-- what stands in the place of a change of a row of a view
abbrev pub instead : Runner → List Name → Name → Event → List ScopeColumn → Option Row → Option Row → Database → Answer Database
instead run running n event cs new old db =
    fired run running InsteadOf (record { target = n; event = event; columns = cs; has_rowid = false; new = new; old = old }) db

-- a row of a view
abbrev pub view_row : List Value → Row
view_row vs = record { rowid = Null; values = vs }

-- as many NULLs
abbrev pub nulls : {A : Type 0} → List A → List Value
nulls cs = map (λ c. Null) cs

-- a view that has no trigger for the event can't be changed
abbrev pub on_view : Database → Name → Event → Answer (Unit {0})
on_view db n event = demand (nat_lt 0 (length (triggers_at InsteadOf event db n))) ViewReadOnly

-- ---- statements

-- it is a table
abbrev pub is_table : Option Object → Bool
is_table (Some (ATable t)) = true
is_table _ = false

abbrev pub insert_into_view : Runner → List Name → Outer → Database → Name → List ℕ → Given → Answer Database
insert_into_view run running outer db n places given =
    on_view db n Inserting then λ _. given_rows db outer given then λ rows.
    let cs = scope_of db n in
    fold_answer (λ db vs. instead run running n Inserting cs (Some (view_row (set_values (nulls cs) (zip places vs)))) None db) db rows

abbrev pub update_view : Runner → List Name → Outer → Database → Name → List (ℕ × Term) → List Name → Option Term → Answer Database
update_view run running outer db n sets set w =
    on_view db n (Updating set) then λ _. chosen_rows db outer n w then λ rows.
    let cs = scope_of db n in
    fold_answer (λ db r.
    values (env_of (outer.rows ++ r ∷ [])) (map (λ s. s.1) sets) then λ given.
    instead run running n (Updating set) cs (Some (view_row (set_values r.values (zip (map (λ s. s.0) sets) given)))) (Some r) db) db rows

abbrev pub delete_from_view : Runner → List Name → Outer → Database → Name → Option Term → Answer Database
delete_from_view run running outer db n w =
    on_view db n Deleting then λ _. chosen_rows db outer n w then λ rows.
    let cs = scope_of db n in
    fold_answer (λ db r. instead run running n Deleting cs None (Some r) db) db rows

-- row by row, beside the triggers that are running
abbrev pub run_resolved : Runner → List Name → Outer → Database → Resolved → Answer Database
run_resolved run running outer db (Inserts n places given) =
    if is_table (object db n)
    then (given_rows db outer given then λ rows. fold_answer (insert_row (fired run running) n places) db rows)
    else insert_into_view run running outer db n places given
run_resolved run running outer db (Updates n sets set w) =
    if is_table (object db n)
    then (chosen_rows db outer n w then λ rows. fold_answer (update_row (fired run running) outer n sets set) db (map id_of rows))
    else update_view run running outer db n sets set w
run_resolved run running outer db (Deletes n w) =
    if is_table (object db n)
    then (chosen_rows db outer n w then λ rows. fold_answer (delete_row (fired run running) n) db (map id_of rows))
    else delete_from_view run running outer db n w

-- a change beside the triggers that are running
abbrev pub change_with : Runner → List Name → Outer → Database → Change → Answer Database
change_with run running outer db c = known_then (resolve_change db outer c) (run_resolved run running outer db)

-- a statement of a program; the rows of a SELECT are left
abbrev pub run_statement : Runner → List Name → Outer → Database → TriggerStatement → Answer Database
run_statement run running outer db (program.Change c) = change_with run running outer db c
run_statement run running outer db (program.Select q) = known_then (resolve_query (look_up db) outer.scope q) λ r. answer_of db outer.rows r then λ _. Ok db

-- how programs run, with room for so many more running triggers
abbrev pub programs : ℕ → Runner
programs zero running outer db body = Err TooLong
programs (suc room) running outer db body = fold_answer (run_statement (programs room) running outer) db body

-- a statement that changes rows; 64 triggers may run at once
abbrev pub change : Database → Change → Answer Database
change db c = change_with (programs 64) [] no_outer db c
