-- Which triggers an event sets off, and how their programs run (SQL As Understood By SQLite, "CREATE TRIGGER").
use Rattle.std.specs.Prelude.{Bool, true, false, ◌&&◌, List, [], ◌∷◌, ◌++◌, map, Option, Some, None, Ok, if◌then◌else◌, codes, filter}
use Rattle.std.specs.List.{list_any}
use Rattle.sqlval.specs.Names.{is_same_name}
use Rattle.sqlval.specs.Refusals.{Answer, ◌then◌, fold_answer}
use Rattle.sql_syntax.specs.Tree.{Tree}
use Rattle.sql_syntax.specs.declared.create.TriggerDefinition.{TriggerDefinition}
use Rattle.sql_syntax.specs.declared.create.TriggerStatement.{TriggerStatement}
use Rattle.sql_syntax.specs.declared.create.TriggerTime.{TriggerTime}
use Rattle.sql_syntax.specs.declared.create.TriggerTime.TheVariants.{Before, After, InsteadOf}
use Rattle.catalog.specs.Database.{Name, Database, triggers_of}
use Rattle.query_names.specs.Expressions.{resolve}
use Rattle.query_names.specs.Checked.{known_then}
use Rattle.query_names.specs.Readings.{holds}
use Rattle.query_names.specs.declared.scope.ScopeSource.{ScopeSource}
use Rattle.query_terms.specs.Values.{Row}
use Rattle.row_change.specs.Changes.{Outer}
use Rattle.row_change.specs.RowChanges.{Event, Firing, is_set_off}

-- ---- what a program sees

abbrev one_of : Name → Bool → Firing → Option Row → List (ScopeSource × Row)
one_of n is_known f None = []
one_of n is_known f (Some r) = (record { name = n; columns = f.columns; has_rowid = f.has_rowid; needs_name = true; is_known = is_known }, r) ∷ []

-- NEW and OLD, as far as the event has them; whether their table or view is known
abbrev pub outer_if : Bool → Firing → Outer
outer_if is_known f =
    let both : List (ScopeSource × Row) = one_of (codes "new") is_known f f.new ++ one_of (codes "old") is_known f f.old in
    record { scope = map (λ p. p.0) both; rows = map (λ p. p.1) both }

-- at a row: its table or view isn't refused
abbrev pub outer_of : Firing → Outer
outer_of = outer_if true

-- ---- which triggers

abbrev pub is_same_time : TriggerTime → TriggerTime → Bool
is_same_time Before Before = true
is_same_time After After = true
is_same_time InsteadOf InsteadOf = true
is_same_time _ _ = false

-- the triggers of a time that an event on a table or view sets off, by name
abbrev pub triggers_at : TriggerTime → Event → Database → Name → List (Name × TriggerDefinition)
triggers_at time event db target = filter (λ t. is_same_time t.1.time time && is_set_off t.1.event event) (triggers_of db target)

-- ---- how they run

-- how a program runs: beside the names of the running triggers, over NEW and OLD
abbrev pub Runner : Type 0
Runner = List Name → Outer → Database → List TriggerStatement → Answer Database

-- WHEN, where it is written, is true
abbrev pub when_holds : Outer → Option Tree → Answer Bool
when_holds outer None = Ok true
when_holds outer (Some e) = known_then (resolve false outer.scope e) λ t. holds t outer.rows then elim [ Some true ↦ Ok true | _ ↦ Ok false ]

-- a trigger that is running isn't set off again
abbrev pub run_trigger : Runner → List Name → Outer → Database → Name × TriggerDefinition → Answer Database
run_trigger run running outer db t =
    if list_any (is_same_name t.0) running then Ok db
    else (when_holds outer t.1.condition then λ b.
    if b then run (t.0 ∷ running) outer db t.1.body else Ok db)

-- the triggers that an event sets off, one after another by name; the first may change what the next finds, but not which there are
abbrev pub fired : Runner → List Name → TriggerTime → Firing → Database → Answer Database
fired run running time f db = fold_answer (run_trigger run running (outer_of f)) db (triggers_at time f.event db f.target)
