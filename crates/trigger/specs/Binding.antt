-- The refusals of binding a change: its own, and those of the programs of all triggers that it can set off.
use Rattle.std.specs.Prelude.{ℕ, zero, suc, false, List, [], ◌∷◌, ◌++◌, map, Option, Some, None, flat_map, Contains}
use Rattle.sqlval.specs.Names.{folded}
use Rattle.sqlval.specs.Refusals.{Refusal}
use Rattle.sqlval.specs.declared.value.Value.TheVariants.{Null}
use Rattle.sql_syntax.specs.Tree.{Tree}
use Rattle.sql_syntax.specs.declared.change.Change.{Change}
use Rattle.sql_syntax.specs.declared.change.Change.TheVariants.{Insert, Update, Delete}
use Rattle.sql_syntax.specs.declared.create.TriggerDefinition.{TriggerDefinition}
use Rattle.sql_syntax.specs.declared.create.TriggerStatement.{TriggerStatement}
use Rattle.sql_syntax.specs.declared.create.TriggerStatement.TheVariants as program
use Rattle.sql_syntax.specs.declared.create.TriggerTime.TheVariants.{Before, After, InsteadOf}
use Rattle.catalog.specs.Database.{Name, Database}
use Rattle.query_names.specs.Expressions.{resolve}
use Rattle.query_names.specs.Checked.{meant, faults, is_good}
use Rattle.query_names.specs.Queries.{resolve_query}
use Rattle.query_terms.specs.Values.{Row}
use Rattle.query_names.specs.Views.{look_up}
use Rattle.row_change.specs.Changes.{Outer, no_outer, resolve_change}
use Rattle.row_change.specs.RowChanges.{Event, Inserting, Deleting, Updating}
use Rattle.trigger.specs.Triggers.{outer_if, triggers_at}

-- whose rows change, and by which event
pub record Aim : Type 0 where
  pub target : Name
  pub event : Event

-- what a change aims at
abbrev pub aim_of : Change → Aim
aim_of (Insert i) = record { target = folded i.table; event = Inserting }
aim_of (Update u) = record { target = folded u.table; event = Updating (map (λ a. folded a.column) u.assignments) }
aim_of (Delete d) = record { target = folded d.table; event = Deleting }

-- the triggers that it can set off
abbrev pub triggers_for : Database → Aim → List (Name × TriggerDefinition)
triggers_for db a = flat_map (λ time. triggers_at time a.event db a.target) (Before ∷ InsteadOf ∷ After ∷ [])

-- What their programs see, whatever NEW and OLD hold. Where the view itself is refused, a column of NEW or OLD has no refusal of its own.
abbrev pub program_scope : Database → Aim → Outer
program_scope db a =
    let found = look_up db a.target in
    outer_if (is_good found) (record { target = a.target; event = a.event; columns = (meant found).0; has_rowid = (meant found).1; new = new a.event; old = old a.event })
  where
    nothing : Row
    nothing = record { rowid = Null; values = [] }

    new : Event → Option Row
    new Deleting = None
    new _ = Some nothing

    old : Event → Option Row
    old Inserting = None
    old _ = Some nothing

-- of WHEN
abbrev pub when_faults : Outer → Option Tree → List Refusal
when_faults outer None = []
when_faults outer (Some e) = faults (resolve false outer.scope e)

-- of a statement of a program, where f gives those of a change
abbrev pub statement_faults : (Outer → Change → List Refusal) → Database → Outer → TriggerStatement → List Refusal
statement_faults f db outer (program.Change c) = f outer c
statement_faults f db outer (program.Select q) = faults (resolve_query (look_up db) outer.scope q)

-- of WHEN and of each statement, where f gives those of its changes
abbrev pub program_faults : (Outer → Change → List Refusal) → Database → Outer → TriggerDefinition → List Refusal
program_faults f db outer t = when_faults outer t.condition ++ flat_map (statement_faults f db outer) t.body

-- the refusals after a chain of so many triggers, each set off by a program of the one before
abbrev pub faults_after : ℕ → Database → Outer → Change → List Refusal
faults_after zero db outer c = faults (resolve_change db outer c)
faults_after (suc n) db outer c = flat_map (λ t. program_faults (faults_after n db) db (program_scope db (aim_of c)) t.1) (triggers_for db (aim_of c))

-- binding the change may be refused so
abbrev pub IsFault : Database → Change → Refusal → Type 0
IsFault db c r = (n : ℕ) × Contains (faults_after n db no_outer c) r
