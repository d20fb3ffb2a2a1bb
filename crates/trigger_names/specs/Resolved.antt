-- A change whose names were looked up, beside its text (SQL As Understood By SQLite, "INSERT", "UPDATE", "DELETE").
use Rattle.std.specs.Prelude.{◌≡◌, ◌==◌, ⊤, ℕ, ℤ, Bool, true, List, [], ◌∷◌, ◌++◌, length, map, None, Option, Result, Some, slice_get}
use Rattle.std.specs.List.{list_all}
use Rattle.sqlval.specs.Names.{folded}
use Rattle.sqlval.specs.declared.fault.Fault.{Fault}
use Rattle.sqlval.specs.declared.value.Value.{Value}
use Rattle.sql_syntax.specs.declared.change.Change.{Change}
use Rattle.sql_syntax.specs.declared.change.Change.TheVariants as text
use Rattle.catalog.specs.Database.{Database, Name}
use Rattle.catalog.specs.Listed.{Listed, Lists}
use Rattle.query_names.specs.Named.{NamesBy}
use Rattle.query_names.specs.Scopes.{beside}
use Rattle.query_names.specs.declared.scope.ScopeSource.{ScopeSource}
use Rattle.query_terms.specs.Terms.{Term}
use Rattle.query_terms.specs.Values.{Row}
use Rattle.query_bind.specs.Named.{AreOuter}
use Rattle.row_change.specs.Changes.{Given, GivenRows, GivenQuery, Resolved, Inserts, Updates, Deletes, resolve_change}
use Rattle.trigger.specs.Binding.{aim_of}
use Rattle.trigger_names.specs.declared.changes.BoundChange.{BoundChange}
use Rattle.trigger_names.specs.declared.changes.BoundChange.TheVariants as bound
use Rattle.trigger_names.specs.declared.giving.BoundRows.{BoundRows}
use Rattle.trigger_names.specs.declared.giving.BoundRows.TheVariants as rows

-- the rows that INSERT gives
abbrev pub bound_given : BoundRows → Given
bound_given (rows.Rows terms) = GivenRows terms
bound_given (rows.Query reading) = GivenQuery reading

-- how many values each row of an INSERT is to have: one for each column that its list names, or for each of all
abbrev pub values_for : ScopeSource → Option (List Name) → ℕ
values_for s None = length s.columns
values_for s (Some names) = length names

-- each row that is given has so many values
abbrev pub gives_width : ℕ → BoundRows → Bool
gives_width count (rows.Rows terms) = list_all (λ row. length row == count) terms
gives_width count (rows.Query reading) = length reading.results == count

-- an INSERT gives each row as many values as it has places
abbrev pub GivesAsMany : BoundChange → Type 0
GivesAsMany (bound.Insert places given) = gives_width (length places.items) given ≡ true
GivesAsMany _ = ⊤

-- the names of the columns that SET names, folded
abbrev pub names_set : Change → List Name
names_set (text.Update u) = map (λ a. folded a.column) u.assignments
names_set _ = []

-- the names of the text, beside what was looked up
abbrev pub resolved_of : Change → BoundChange → Resolved
resolved_of c (bound.Insert places rows) = Inserts (aim_of c).target places.items (bound_given rows)
resolved_of c (bound.Update sets condition) = Updates (aim_of c).target sets.items (names_set c) condition
resolved_of c (bound.Delete condition) = Deletes (aim_of c).target condition

-- what UPDATE and DELETE see of a row, beside these sources of a trigger
abbrev pub row_seen : List ScopeSource → ScopeSource → List ScopeSource
row_seen outer s = beside outer (s.name ∷ []) ++ s ∷ []

-- On each database of which this is listed, the change was looked up as it stands beside these sources of a trigger, whatever rows they have.
abbrev pub IsLookedUp : Listed → List ScopeSource → Change → Result BoundChange Fault → Type 0
IsLookedUp l outer c result = (rows_at : ℕ → List (ℤ × List Value)) (db : Database) (held : List Row) → AreOuter outer → Lists rows_at l db
    → NamesBy (resolved_of c) (resolve_change db (record { scope = outer; rows = held }) c) result

-- a term with the place of this number, where there is one
abbrev pub set_at : List ℕ → ℕ → Term → List (ℕ × Term)
set_at places i t = elim (slice_get places i) [ None ↦ [] | Some p ↦ (p, t) ∷ [] ]
