-- What follows for every condition.
use Rattle.std.specs.Prelude.{◌≡◌, ◌≤◌, ℕ, ℤ, List, [], Bool, true, Option, Some, Ok}
use Rattle.std.specs.List.{AllByRecursion}
use Rattle.sqlval.specs.declared.value.Value.{Value}
use Rattle.sql_syntax.specs.declared.query.Query.{Query}
use Rattle.catalog.specs.Database.{Name, Database, AView, View, object}
use Rattle.catalog.specs.Listed.{Listed, Lists}
use Rattle.query_names.specs.Calm.{is_calm}
use Rattle.query_names.specs.Checked.{Meant}
use Rattle.query_names.specs.Known.{IsKnownIn, IsKnownView, columns_in}
use Rattle.query_names.specs.Queries.{resolve_query}
use Rattle.query_names.specs.Views.{columns_of, look_up}
use Rattle.query_names.specs.declared.reading.Reading.{Reading}
use Rattle.query_terms.specs.Terms.{Term}
use Rattle.query_terms.specs.Values.{Environment, value, truth}

-- what a name stands for on a database is what it stands for beside what is listed of it
abbrev pub KnowsListed : Type 0
KnowsListed = (rows_at : ℕ → List (ℤ × List Value)) (l : Listed) (db : Database) → Lists rows_at l db
    → (n : ℕ) (around : List Name) (name : Name) → columns_of n db around name ≡ columns_in n l around name

-- the sources of a query that isn't refused are known
abbrev pub SourcesAreKnown : Type 0
SourcesAreKnown = (db : Database) (q : Query) (reading : Reading) → resolve_query (look_up db) [] q ≡ Meant reading []
    → AllByRecursion (λ s. IsKnownIn 64 db s.0) reading.sources

-- a view that is known, with room for no more than 64 one within another, has a query that is known by itself, and so are its sources
abbrev pub ViewsAreKnown : Type 0
ViewsAreKnown = (n : ℕ) (db : Database) (name : Name) (v : View) → n ≤ 64 → object db name ≡ Some (AView v) → IsKnownIn n db name → IsKnownView n db v

-- a calm condition has a value, and is true, false or NULL, over whatever rows
abbrev pub CalmIsNotRefused : Type 0
CalmIsNotRefused = (t : Term) → is_calm t ≡ true → (env : Environment) → (v : Value) × (value t env ≡ Ok v) × (b : Option Bool) × (truth v ≡ Ok b)
