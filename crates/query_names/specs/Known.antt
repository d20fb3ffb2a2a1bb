-- What a name stands for beside what is listed, and which names are known on a database (SQL As Understood By SQLite, "CREATE VIEW").
use Rattle.std.specs.Prelude.{◌≡◌, ℕ, zero, suc, Bool, false, List, [], ◌∷◌, Option, Some, None}
use Rattle.std.specs.List.{AllByRecursion}
use Rattle.sqlval.specs.Names.{folded}
use Rattle.sqlval.specs.Refusals.{NoSuch, TooLong}
use Rattle.catalog.specs.Database.{Name, Database, View}
use Rattle.catalog.specs.Listed.{Listed, as_view, table_named, view_named}
use Rattle.catalog.specs.declared.tables.Table.{Table}
use Rattle.catalog.specs.declared.tables.View.{View as ListedView}
use Rattle.query_names.specs.Bound.{looked_up}
use Rattle.query_names.specs.Checked.{Checked, Meant, bad, faults}
use Rattle.query_names.specs.Queries.{resolve_query}
use Rattle.query_names.specs.Views.{columns_of, look_up, unless_around, view_columns}
use Rattle.query_names.specs.declared.reading.Reading.{Reading}
use Rattle.query_names.specs.declared.scope.ScopeColumn.{ScopeColumn}

-- ---- beside what is listed

-- the columns of a listed table, or else of a listed view as it is looked at
abbrev pub columns_listed : (ListedView → Checked (List ScopeColumn × Bool)) → Option Table → Option ListedView → Checked (List ScopeColumn × Bool)
columns_listed view (Some t) found = looked_up (Some t)
columns_listed view None (Some v) = view v
columns_listed view None None = bad ([], false) NoSuch

-- the columns of a listed table or view, with room for so many views one within another; around are the views that this one stands in
abbrev pub columns_in : ℕ → Listed → List Name → Name → Checked (List ScopeColumn × Bool)
columns_in zero l around name =
    columns_listed (λ v. unless_around around name (bad ([], false) TooLong)) (table_named name l.tables) (view_named name l.views)
columns_in (suc n) l around name =
    columns_listed (λ v. unless_around around name (view_columns (as_view v) (resolve_query (columns_in n l (folded name ∷ around)) [] v.definition.query)))
    (table_named name l.tables) (view_named name l.views)

-- ---- on a database

-- the name stands for a table or a view that isn't refused, with so much room, within some views
abbrev pub IsKnownIn : ℕ → Database → Name → Type 0
IsKnownIn n db name = (around : List Name) × (faults (columns_of n db around name) ≡ [])

-- the view's query is known by itself, and so is what each of its sources names, with room for one view less
pub record IsKnownView (n : ℕ) (db : Database) (v : View) : Type 0 where
  pub less : ℕ
  pub room : n ≡ suc less
  pub reading : Reading
  pub is : resolve_query (look_up db) [] v.query ≡ Meant reading []
  pub sources : AllByRecursion (λ s. IsKnownIn less db s.0) reading.sources
