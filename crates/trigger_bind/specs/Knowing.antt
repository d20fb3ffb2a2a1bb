-- What is known where the names of a change and of all its programs are (SQL As Understood By SQLite, "CREATE TRIGGER").
use Rattle.std.specs.Prelude.{◌≡◌, ℕ, ℤ, List, []}
use Rattle.std.specs.List.{AllByRecursion, Contains}
use Rattle.sqlval.specs.Refusals.{Refusal}
use Rattle.sqlval.specs.declared.value.Value.{Value}
use Rattle.sql_syntax.specs.declared.change.Change.{Change}
use Rattle.sql_syntax.specs.declared.create.TriggerDefinition.{TriggerDefinition}
use Rattle.sql_syntax.specs.declared.create.TriggerStatement.{TriggerStatement}
use Rattle.sql_syntax.specs.declared.create.TriggerStatement.TheVariants as program
use Rattle.sql_syntax.specs.declared.create.TriggerTime.{TriggerTime}
use Rattle.catalog.specs.Database.{Name, Database}
use Rattle.catalog.specs.Listed.{Listed}
use Rattle.catalog.specs.Named.{IsOfListed}
use Rattle.query_names.specs.Checked.{Meant, faults, meant}
use Rattle.query_names.specs.Queries.{resolve_query}
use Rattle.query_names.specs.Views.{look_up}
use Rattle.query_names.specs.declared.scope.ScopeSource.{ScopeSource}
use Rattle.query_terms.specs.Values.{Row}
use Rattle.row_change.specs.Changes.{Outer, resolve_change}
use Rattle.row_change.specs.RowChanges.{Firing}
use Rattle.trigger.specs.Binding.{Aim, aim_of, faults_after, triggers_for, when_faults}
use Rattle.trigger.specs.Triggers.{outer_of, triggers_at}
use Rattle.trigger_names.specs.Programs.{HasRowsOf}
use Rattle.trigger_names.specs.Resolved.{GivesAsMany, resolved_of}
use Rattle.trigger_names.specs.declared.changes.BoundChange.{BoundChange}

-- the names of a change are known, and those of each program that it can set off, through any chain of triggers
abbrev pub KnowsAll : Database → Outer → Change → Type 0
KnowsAll db outer c = (n : ℕ) (r : Refusal) → Contains (faults_after n db outer c) r → ⊥

-- those of a statement of a program
abbrev pub KnowsStatement : Database → Outer → TriggerStatement → Type 0
KnowsStatement db outer (program.Change c) = KnowsAll db outer c
KnowsStatement db outer (program.Select q) = faults (resolve_query (look_up db) outer.scope q) ≡ []

-- those of a trigger's WHEN and of its program
pub record KnowsProgram (db : Database) (outer : Outer) (d : TriggerDefinition) : Type 0 where
  pub condition : when_faults outer d.condition ≡ []
  pub body : AllByRecursion (KnowsStatement db outer) d.body

-- an event at a row of the table or view that a change is for
pub record IsRowOf (db : Database) (aim : Aim) (firing : Firing) : Type 0 where
  pub columns : firing.columns ≡ (meant (look_up db aim.target)).0
  pub has_rowid : firing.has_rowid ≡ (meant (look_up db aim.target)).1
  pub has : HasRowsOf aim.event firing

-- Where all is known of a change, all is known of each trigger that it sets off, at each of its rows.
abbrev pub IsInherited : Type 0
IsInherited = (db : Database) (outer : Outer) (c : Change) (t : Name × TriggerDefinition) (firing : Firing) → KnowsAll db outer c
    → Contains (triggers_for db (aim_of c)) t → IsRowOf db (aim_of c) firing → KnowsProgram db (outer_of firing) t.1

-- What an event sets off at one time is among what it can set off.
abbrev pub BindsAtSomeTime : Type 0
BindsAtSomeTime = (db : Database) (aim : Aim) (time : TriggerTime) (t : Name × TriggerDefinition)
    → Contains (triggers_at time aim.event db aim.target) t → Contains (triggers_for db aim) t

-- On each database of which this is listed, these are the names of the change beside these sources of a trigger's program, whatever rows they have.
pub record IsLookedUpAs (l : Listed) (scope : List ScopeSource) (c : Change) (bound : BoundChange) : Type 0 where
  pub named : (rows_at : ℕ → List (ℤ × List Value)) (db : Database) (rows : List Row) → IsOfListed rows_at l db
      → resolve_change db (record { scope = scope; rows = rows }) c ≡ Meant (resolved_of c bound) []
  pub counted : GivesAsMany bound
