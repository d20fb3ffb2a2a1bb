-- What names stand for beside what is listed.
use Rattle.std.proofs.Common.{◌≡◌, inl, inr, ap, ◌∙◌, ℕ, zero, suc, ℤ, List, [], ◌∷◌, Bool, false, Option, Some, None}
use Rattle.std.specs.Prelude.{MatchOption}
use Rattle.sqlval.specs.Names.{folded}
use Rattle.sqlval.specs.Refusals.{TooLong}
use Rattle.sqlval.specs.declared.value.Value.{Value}
use Rattle.catalog.specs.Database.{Name, Object, View, ATable, AView, ATrigger, object}
use Rattle.catalog.specs.Laws.{FindsListed, IsIndexOrNone, IsNoSource}
use Rattle.catalog.proofs.Found.{finds_listed}
use Rattle.catalog.specs.Listed.{Listed, as_view, with_rows, table_named, trigger_named, view_named}
use Rattle.catalog.specs.declared.tables.Table.{Table}
use Rattle.catalog.specs.declared.tables.Trigger.{Trigger}
use Rattle.catalog.specs.declared.tables.View.{View as ListedView}
use Rattle.query_names.specs.Bound.{looked_up}
use Rattle.query_names.specs.Checked.{Checked, bad}
use Rattle.query_names.specs.Known.{columns_listed}
use Rattle.query_names.specs.Laws.{KnowsListed}
use Rattle.query_names.specs.Queries.{Lookup, resolve_query}
use Rattle.query_names.specs.declared.scope.ScopeColumn.{ScopeColumn}
use Rattle.query_names.specs.Views.{columns_of, columns_of_object, unless_around, view_columns}

abbrev Seen : Type 0
Seen = Checked (List ScopeColumn × Bool)

no_index : (view : View → Seen) (found : Option Object) → IsIndexOrNone found → columns_of_object view found ≡ looked_up None
no_index view found (inl none) = ap (columns_of_object view) none
no_index view found (inr (i, is)) = ap (columns_of_object view) is

no_source : (view : View → Seen) (l : Listed) (name : Name) (found : Option Object) → IsNoSource l name found → columns_of_object view found ≡ looked_up None
no_source view l name found = by_case (trigger_named name l.triggers)
  where
    by_case : (named : Option Trigger) → MatchOption named (IsIndexOrNone found) (λ t. found ≡ Some (ATrigger t.definition)) → columns_of_object view found ≡ looked_up None
    by_case None h = no_index view found h
    by_case (Some t) h = ap (columns_of_object view) h

-- what a name finds, looked at
found_as : (rows_at : ℕ → List (ℤ × List Value)) (l : Listed) (name : Name) (view : View → Seen) (found : Option Object) (t : Option Table) (v : Option ListedView)
    → MatchOption t (MatchOption v (IsNoSource l name found) (λ v. found ≡ Some (AView (as_view v)))) (λ t. found ≡ Some (ATable (with_rows t (rows_at t.root))))
    → columns_of_object view found ≡ columns_listed (λ v. view (as_view v)) t v
found_as rows_at l name view found (Some t) v h = ap (columns_of_object view) h
found_as rows_at l name view found None (Some v) h = ap (columns_of_object view) h
found_as rows_at l name view found None None h = no_source view l name found h

-- a view, by what its query's names are looked up with
abbrev by_query : List Name → Name → Lookup → View → Seen
by_query around name look v = unless_around around name (view_columns v (resolve_query look [] v.query))

pub known_by : FindsListed → KnowsListed
known_by finds rows_at l db h zero around name =
    found_as rows_at l name (λ v. unless_around around name (bad ([], false) TooLong)) (object db name) (table_named name l.tables) (view_named name l.views) (finds rows_at l db name h)
known_by finds rows_at l db h (suc n) around name =
    found_as rows_at l name (by_query around name (columns_of n db (folded name ∷ around))) (object db name) (table_named name l.tables) (view_named name l.views) (finds rows_at l db name h)
    ∙ ap (λ (look : Lookup). columns_listed (λ v. by_query around name look (as_view v)) (table_named name l.tables) (view_named name l.views))
    (λ i k. known_by finds rows_at l db h n (folded name ∷ around) k i)

pub known_listed : KnowsListed
known_listed = known_by finds_listed
