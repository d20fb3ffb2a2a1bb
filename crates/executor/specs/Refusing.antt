-- Changes that are refused: those that a trigger waits for, and those of views, whose names are looked up before (SQL As Understood By SQLite,
-- "CREATE TRIGGER", "CREATE VIEW").
use Rattle.std.specs.Prelude.{◌≡◌, ⊤, true, false, ◌&&◌, ℕ, ℤ, Bool, List, [], Option, Some, Result, MatchResult, is_none, is_some}
use Rattle.sqlval.specs.Names.{folded}
use Rattle.sqlval.specs.Refusals.{Unsupported, refusal_of}
use Rattle.sqlval.specs.declared.fault.Fault.{Fault}
use Rattle.sqlval.specs.declared.value.Value.{Value}
use Rattle.sql_syntax.specs.declared.change.Change.{Change}
use Rattle.sql_syntax.specs.declared.change.InsertSource.{InsertSource}
use Rattle.catalog.specs.Database.{Database, Name}
use Rattle.catalog.specs.Listed.{Listed, Lists, table_named, view_named}
use Rattle.query_names.specs.Bound.{IsFaultOf}
use Rattle.query_names.specs.Checked.{Checked, faults}
use Rattle.query_names.specs.declared.scope.ScopeSource.{ScopeSource}
use Rattle.row_change.specs.RowChanges.{Event, is_quiet}
use Rattle.row_change.specs.Changes.{insert_places, no_outer, resolve_change, resolve_given, wanted}

-- the name is that of a listed view
abbrev pub is_view_named : Listed → Name → Bool
is_view_named l name = is_none (table_named name l.tables) && is_some (view_named name l.views)

-- what was looked up isn't refused; or it is refused so, or memory was short
abbrev pub IsKnownOr : {X A : Type 0} → Checked A → Result X Fault → Type 0
IsKnownOr k result = MatchResult result (λ x. faults k ≡ []) (IsFaultOf (faults k))

-- the names of a change are known on each database of which this is listed
abbrev pub KnowsChange : Listed → Change → Result ⊤ Fault → Type 0
KnowsChange l c result = (rows_at : ℕ → List (ℤ × List Value)) (db : Database) → Lists rows_at l db → IsKnownOr (resolve_change db no_outer c) result

-- those of the rows that an INSERT gives, where each has so many values
abbrev pub KnowsGiven : Database → ℕ → InsertSource → Result ⊤ Fault → Type 0
KnowsGiven db count source result = IsKnownOr (resolve_given db no_outer (Some count) source) result

-- those of an INSERT's list of columns; and how many values each row is to have
abbrev pub KnowsPlaces : ScopeSource → Option (List Name) → Result ℕ Fault → Type 0
KnowsPlaces source columns result = MatchResult result (λ count. (faults (insert_places source columns) ≡ []) × (wanted source columns ≡ Some count)) (IsFaultOf (faults (insert_places source columns)))
