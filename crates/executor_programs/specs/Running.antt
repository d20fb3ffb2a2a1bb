-- What running programs makes of the pages that store a database (SQL As Understood By SQLite, "CREATE TRIGGER").
use Rattle.std.specs.Prelude.{◌≡◌, ◌⊎◌, ⊤, ℕ, ℤ, true, List, [], map, reverse, Contains, Ok, Err, Result, MatchResult}
use Rattle.std.specs.List.{AllByRecursion, list_any}
use Rattle.std.specs.declared.alloc.Global.{Global}
use Rattle.std.specs.declared.rc.Rc.{Rc}
use Rattle.sqlval.specs.Names.{folded}
use Rattle.sqlval.specs.Refusals.{Answer, ◌then◌, refusal_of}
use Rattle.sqlval.specs.declared.fault.Fault.{Fault}
use Rattle.sqlval.specs.declared.fault.Fault.TheVariants as fault
use Rattle.sqlval.specs.declared.value.Value.{Value}
use Rattle.sql_syntax.specs.declared.change.Change.{Change}
use Rattle.sql_syntax.specs.declared.create.TriggerDefinition.{TriggerDefinition}
use Rattle.sql_syntax.specs.declared.create.TriggerStatement.{TriggerStatement}
use Rattle.sql_syntax.specs.declared.query.Query.{Query}
use Rattle.pages.specs.Calls.{IsOutsideOrFull}
use Rattle.pages.specs.Map.{PageMap}
use Rattle.catalog.specs.Database.{Database, Name}
use Rattle.catalog.specs.Listed.{Listed, shared}
use Rattle.catalog.specs.Named.{IsOfListed}
use Rattle.catalog.specs.declared.tables.Trigger.{Trigger}
use Rattle.query_names.specs.Checked.{faults, known_then}
use Rattle.query_names.specs.Queries.{resolve_query}
use Rattle.query_names.specs.Views.{answer_of, look_up}
use Rattle.row_scan.specs.Trees.{AnswersOrFails}
use Rattle.row_change.specs.Changes.{Outer}
use Rattle.row_change.specs.RowChanges.{Firing}
use Rattle.trigger.specs.Binding.{aim_of, triggers_for}
use Rattle.trigger.specs.Triggers.{outer_of}
use Rattle.trigger_bind.specs.Choosing.{named_definition}
use Rattle.trigger_bind.specs.Knowing.{IsRowOf, KnowsAll, KnowsProgram, KnowsStatement}
use Rattle.db_write.specs.Changing.{has_wide_index}
use Rattle.db_pages.specs.Stored.{Stores}
use Rattle.executor.specs.Rows.{StoresWith}

-- ---- what becomes of the pages

-- an index of a listed table has so many columns that no record can hold an entry
abbrev pub MeetsWide : Listed → Fault → Type 0
MeetsWide l f = (f ≡ fault.TooLong) × (list_any has_wide_index l.tables ≡ true)

-- memory or pages are short, or a disk's call failed; or it is the refusal of the answer; or an index is too wide
abbrev pub IsRunRefusal : {A : Type 0} → Listed → Answer A → Fault → Type 0
IsRunRefusal l answer f = IsOutsideOrFull f ⊎ ((answer ≡ Err (refusal_of f)) ⊎ MeetsWide l f)

-- Of each database that the pages store, they store what the effect makes of it, with the same listed; or it is refused.
abbrev pub Runs : PageMap → PageMap → ℕ → Listed → (Database → Answer Database) → Result ⊤ Fault → Type 0
Runs old new size l effect result = (db : Database) → Stores old size l db
    → MatchResult result (λ done. StoresWith new size l (effect db)) (IsRunRefusal l (effect db))

-- ---- what is known before

-- it holds of each database of which this is listed
abbrev pub OnEach : Listed → (Database → Type 0) → Type 0
OnEach l Holds = (rows_at : ℕ → List (ℤ × List Value)) (db : Database) → IsOfListed rows_at l db → Holds db

-- the names of a change and of all that it can set off are known beside what its program sees
abbrev pub KnowsNames : Listed → Outer → Change → Type 0
KnowsNames l outer c = OnEach l (λ db. KnowsAll db outer c)

-- those of the statements of a program
abbrev pub KnowsBody : Listed → Outer → List TriggerStatement → Type 0
KnowsBody l outer body = OnEach l (λ db. AllByRecursion (KnowsStatement db outer) body)

-- those of the WHEN and the program of each of these triggers
abbrev pub KnowsEach : Listed → Outer → List Trigger → Type 0
KnowsEach l outer triggers = OnEach l (λ db. AllByRecursion (λ t. KnowsProgram db outer t.definition) triggers)

-- ---- the triggers that run

-- the names of the running triggers, the newest first
abbrev pub running_names : List (Rc Trigger Global) → List Name
running_names running = map (λ t. folded t.definition.name) (reverse (shared running))

-- triggers under their folded names
abbrev pub definitions : List (Rc Trigger Global) → List (Name × TriggerDefinition)
definitions triggers = map named_definition (shared triggers)

-- ---- rows and queries

-- the names of a query are known beside what the program sees
abbrev pub KnowsQuery : Listed → Outer → Query → Type 0
KnowsQuery l outer q = OnEach l (λ db. faults (resolve_query (look_up db) outer.scope q) ≡ [])

-- A query of a program is answered on each database that the pages store, and its rows are left; or it is refused as it is there.
abbrev pub ReadsOnly : PageMap → ℕ → Listed → Outer → Query → Result ⊤ Fault → Type 0
ReadsOnly pages size l outer q result = (db : Database) → Stores pages size l db
    → AnswersOrFails (λ done. db) (known_then (resolve_query (look_up db) outer.scope q) λ r. answer_of db outer.rows r then λ rows. Ok db) result

-- the names of the programs are known that a change sets off, at each of its rows
abbrev pub KnowsRows : Listed → Change → Type 0
KnowsRows l c = OnEach l (λ db. (t : Name × TriggerDefinition) (f : Firing) → Contains (triggers_for db (aim_of c)) t → IsRowOf db (aim_of c) f → KnowsProgram db (outer_of f) t.1)
