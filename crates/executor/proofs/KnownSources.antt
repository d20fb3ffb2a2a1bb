-- What a name is looked up as that no view has: a listed table, or nothing.
use Rattle.std.proofs.Common.{◌≡◌, inl, inr, refl, ap, subst, ℕ, ◌&&◌, Bool, true, false, List, Option, Some, None}
use Rattle.std.specs.Prelude.{MatchOption, is_none, is_some}
use Rattle.std.proofs.lemmas.Bool.{false≢true}
use Rattle.catalog.specs.Database.{ATable, ATrigger, AView, Database, Name, Object, View, object}
use Rattle.catalog.specs.Laws.{IsIndexOrNone, IsNoSource, IsNoTable}
use Rattle.catalog.specs.Listed.{Listed, Lists, as_view, table_named, trigger_named, view_named, with_rows}
use Rattle.catalog.specs.declared.tables.Table.{Table}
use Rattle.catalog.specs.declared.tables.Trigger.{Trigger}
use Rattle.catalog.specs.declared.tables.View.{View as ListedView}
use Rattle.catalog.proofs.Found.{finds_listed}
use Rattle.query_names.specs.Bound.{looked_up}
use Rattle.query_names.specs.Checked.{Checked}
use Rattle.query_names.specs.Views.{columns_of_object, look_up}
use Rattle.query_names.specs.declared.scope.ScopeColumn.{ScopeColumn}
use Rattle.row_scan.specs.Rows.{TableRow}
use Rattle.executor.specs.Refusing.{is_view_named}

module _ (rows_at : ℕ → List TableRow) (l : Listed) (db : Database) (lists : Lists rows_at l db) (name : Name) where
  no_source : (view : View → Checked (List ScopeColumn × Bool)) (found : Option Object) → IsNoSource l name found → columns_of_object view found ≡ looked_up None
  no_source view found h = by (trigger_named name l.triggers) h
    where
      by : (t : Option Trigger) → MatchOption t (IsIndexOrNone found) (λ t. found ≡ Some (ATrigger t.definition)) → columns_of_object view found ≡ looked_up None
      by None (inl none) = ap (columns_of_object view) none
      by None (inr (i, is)) = ap (columns_of_object view) is
      by (Some t) is = ap (columns_of_object view) is

  no_view : (view : View → Checked (List ScopeColumn × Bool)) (v : Option ListedView) → is_some v ≡ false → MatchOption v (IsNoSource l name (object db name)) (λ v. object db name ≡ Some (AView (as_view v)))
      → columns_of_object view (object db name) ≡ looked_up None
  no_view view None plain none = no_source view (object db name) none
  no_view view (Some v) plain h = absurd (false≢true (subst (λ b. b ≡ true) plain refl))

  seen : (view : View → Checked (List ScopeColumn × Bool)) (t : Option Table) → is_none t && is_some (view_named name l.views) ≡ false
      → MatchOption t (IsNoTable l name (object db name)) (λ t. object db name ≡ Some (ATable (with_rows t (rows_at t.root)))) → columns_of_object view (object db name) ≡ looked_up t
  seen view None plain h = no_view view (view_named name l.views) plain h
  seen view (Some t) plain h = ap (columns_of_object view) h

  pub known_as : is_view_named l name ≡ false → look_up db name ≡ looked_up (table_named name l.tables)
  known_as plain = seen _ (table_named name l.tables) plain (finds_listed rows_at l db name lists)
