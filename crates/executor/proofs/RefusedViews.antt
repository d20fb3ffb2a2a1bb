-- Why a change of a view is refused: as its names are, or else since a view can't be changed.
use Rattle.std.proofs.Common.{◌≡◌, inl, inr, refl, sym, ap, subst, ◌∙◌, ℕ, ◌++◌, ◌&&◌, ◌||◌, Bool, true, false, List, [], ◌∷◌, length, map, Option, Some, None, Result, Ok, Err, arith}
use Rattle.std.specs.Prelude.{⊤, Contains, IsErrAnd, MatchOption, MatchResult, find, is_none, is_some, bytes_eq, zip}
use Rattle.std.proofs.lemmas.Bool.{false≢true}
use Rattle.sqlval.specs.Names.{folded}
use Rattle.sqlval.specs.Refusals.{Refusal, Unsupported, ViewReadOnly, refusal_of}
use Rattle.sqlval.specs.declared.fault.Fault.{Fault}
use Rattle.sqlval.specs.declared.fault.Fault.TheVariants as fault
use Rattle.sql_syntax.specs.declared.change.Change.{Change}
use Rattle.sql_syntax.specs.declared.change.Change.TheVariants as kind
use Rattle.sql_syntax.specs.declared.change.Delete.{Delete}
use Rattle.sql_syntax.specs.declared.change.Insert.{Insert}
use Rattle.sql_syntax.specs.declared.change.Update.{Update}
use Rattle.sql_syntax.specs.declared.statement.Statement.TheVariants as statement
use Rattle.catalog.specs.Database.{ATable, AView, Database, Name, Object, View, object}
use Rattle.catalog.specs.Laws.{FindsListed, IsNoSource, IsNoTable}
use Rattle.catalog.specs.Listed.{Listed, as_view, table_named, view_named, with_rows}
use Rattle.catalog.specs.Named.{IsOfListed}
use Rattle.catalog.specs.declared.tables.Table.{Table}
use Rattle.catalog.specs.declared.tables.View.{View as ListedView}
use Rattle.query_names.specs.Bound.{IsFaultOf}
use Rattle.query_names.specs.Checked.{Checked, Meant, also, both, faults, good, known_all, known_map, meant, noted, ◌and_then◌}
use Rattle.query_names.specs.Expressions.{resolve}
use Rattle.query_names.specs.Named.{NamesBy}
use Rattle.query_names.specs.Queries.{resolve_filter}
use Rattle.query_names.specs.Scopes.{resolve_places, source_of}
use Rattle.query_names.specs.Views.{look_up}
use Rattle.query_names.specs.declared.scope.ScopeColumn.{ScopeColumn}
use Rattle.query_names.specs.declared.scope.ScopeSource.{ScopeSource}
use Rattle.query_names.proofs.ColumnNames.{folded_twice}
use Rattle.query_names.proofs.PartRefusals.{left, mapped, right}
use Rattle.query_terms.specs.Terms.{Term}
use Rattle.query_bind.specs.Assigned.{columns_set}
use Rattle.query_bind.proofs.Chains.{in_front, refused_first, then_good}
use Rattle.row_change.specs.RowChanges.{is_quiet}
use Rattle.row_change.specs.Changes.{Given, Inserts, Updates, Deletes, Resolved, insert_places, no_outer, resolve_change, resolve_given, resolve_sets, target, wanted}
use Rattle.row_scan.specs.Rows.{TableRow}
use Rattle.trigger.specs.Binding.{IsFault, aim_of}
use Rattle.trigger.specs.Effects.{change}
use Rattle.trigger.specs.Laws.{BindsAlone, SetsOffNothing, ViewsAreReadOnly}
use Rattle.executor.specs.Changing.{IsChangeRefusal}
use Rattle.executor.specs.Refusing.{IsKnownOr, is_view_named}
use Rattle.executor.specs.Works.{RefusesWith, of_answer}
use Rattle.executor.proofs.Insertions.{named_folded}

-- a call that hands a refusal on
pub passed_on : {X B : Type 0} (whole : Checked B) (r : Result X Fault) (f : Fault) → IsErrAnd r (λ e. e ≡ f) → IsFaultOf (faults whole) f → IsKnownOr whole r
passed_on whole (Ok x) f is why = absurd is
passed_on whole (Err e) f is why = subst (IsFaultOf (faults whole)) (sym is) why

-- what a name stands for, as a source: nothing of it is refused
pub record IsTarget (db : Database) (name : Name) (source : ScopeSource) : Type 0 where
  pub is : target db name ≡ Meant source []
  pub known : source.is_known ≡ true

abbrev as_named : Name → List ScopeColumn × Bool → ScopeSource
as_named name found = source_of (folded name) (good found)

pub target_is : (db : Database) (name : Name) (source : ScopeSource) → known_map (as_named name) (look_up db name) ≡ Meant source [] → IsTarget db name source
target_is db name source is = by (look_up db name) refl is
  where
    nothing : {B : Type 0} (r : Refusal) (rs : List Refusal) → r ∷ rs ≡ [] → B
    nothing r rs e = absurd cc

    by : (k : Checked (List ScopeColumn × Bool)) → look_up db name ≡ k → known_map (as_named name) k ≡ Meant source [] → IsTarget db name source
    by (Meant x (r ∷ rs)) here e = nothing r rs (ap faults e)
    by (Meant x []) here e = record {
      is = ap (λ k. noted k and_then λ found. good (source_of (folded name) found)) here ∙ e;
      known = sym (ap (λ (k : Checked ScopeSource). (meant k).is_known) e);
    }

pub target_refused : (db : Database) (name : Name) (f : Fault) → IsFaultOf (faults (known_map (as_named name) (look_up db name))) f → IsFaultOf (faults (target db name)) f
target_refused db name f why = by (look_up db name) why
  where
    by : (k : Checked (List ScopeColumn × Bool)) → IsFaultOf (faults (known_map (as_named name) k)) f → IsFaultOf (faults (noted k and_then λ found. good (source_of (folded name) found))) f
    by (Meant x rs) h = in_front rs [] f h

-- ---- what follows the name

none_of_both : {A B C : Type 0} (f : A → B → C) (a : Checked A) (b : Checked B) → faults a ≡ [] → faults b ≡ [] → faults (both f a b) ≡ []
none_of_both f (Meant x rs) (Meant y ss) e d = ap (λ z. z ++ ss) e ∙ d

none_of_map : {A B : Type 0} (f : A → B) (k : Checked A) → faults k ≡ [] → faults (known_map f k) ≡ []
none_of_map f (Meant x rs) e = e

pub none_of_named : {X A : Type 0} (view : X → A) (k : Checked A) (x : X) → k ≡ Meant (view x) [] → faults k ≡ []
none_of_named view k x e = ap faults e

-- a statement after its target
abbrev after_insert : Database → Insert → ScopeSource → Checked Resolved
after_insert db i s = both (Inserts (folded i.table)) (insert_places s i.columns) (resolve_given db no_outer (wanted s i.columns) i.source)

abbrev after_update : Update → ScopeSource → Checked Resolved
after_update u s =
    both (λ sets where'. Updates (folded u.table) sets (map (λ x. folded x.column) u.assignments) where') (resolve_sets (s ∷ []) s u.assignments) (resolve_filter (s ∷ []) u.condition)

abbrev after_delete : Delete → ScopeSource → Checked Resolved
after_delete d s = known_map (Deletes (folded d.table)) (resolve_filter (s ∷ []) d.condition)

-- ---- INSERT

module _ (db : Database) (i : Insert) where
  pub insert_unnamed : (f : Fault) → IsFaultOf (faults (known_map (as_named i.table) (look_up db i.table))) f → IsFaultOf (faults (resolve_change db no_outer (kind.Insert i))) f
  insert_unnamed f why = refused_first (target db i.table) (after_insert db i) f (target_refused db i.table f why)

  module _ (s : ScopeSource) (at : IsTarget db i.table s) where
    insert_is : resolve_change db no_outer (kind.Insert i) ≡ after_insert db i s
    insert_is = then_good (target db i.table) (after_insert db i) s at.is

    pub places_refused : (f : Fault) → IsFaultOf (faults (insert_places s i.columns)) f → IsFaultOf (faults (resolve_change db no_outer (kind.Insert i))) f
    places_refused f why =
        subst (λ (k : Checked Resolved). IsFaultOf (faults k) f) (sym insert_is)
        (left (Inserts (folded i.table)) (insert_places s i.columns) (resolve_given db no_outer (wanted s i.columns) i.source) f why)

    pub given_known : {X : Type 0} (count : ℕ) (result : Result X Fault) → faults (insert_places s i.columns) ≡ [] → wanted s i.columns ≡ Some count
        → IsKnownOr (resolve_given db no_outer (Some count) i.source) result → IsKnownOr (resolve_change db no_outer (kind.Insert i)) result
    given_known count (Ok x) places want given =
        ap faults insert_is
        ∙ none_of_both (Inserts (folded i.table)) (insert_places s i.columns) (resolve_given db no_outer (wanted s i.columns) i.source) places (ap (λ (w : Option ℕ). faults (resolve_given db no_outer w i.source)) want ∙ given)
    given_known count (Err f) places want given =
        subst (λ (k : Checked Resolved). IsFaultOf (faults k) f) (sym insert_is)
        (right (Inserts (folded i.table)) (insert_places s i.columns) (resolve_given db no_outer (wanted s i.columns) i.source) f
        (subst (λ (w : Option ℕ). IsFaultOf (faults (resolve_given db no_outer w i.source)) f) (sym want) given))

-- ---- UPDATE

module _ (db : Database) (u : Update) where
  pub update_unnamed : (f : Fault) → IsFaultOf (faults (known_map (as_named u.table) (look_up db u.table))) f → IsFaultOf (faults (resolve_change db no_outer (kind.Update u))) f
  update_unnamed f why = refused_first (target db u.table) (after_update u) f (target_refused db u.table f why)

  module _ (s : ScopeSource) (at : IsTarget db u.table s) where
    update_is : resolve_change db no_outer (kind.Update u) ≡ after_update u s
    update_is = then_good (target db u.table) (after_update u) s at.is

    abbrev made_of : List (ℕ × Term) → Option Term → Resolved
    made_of sets where' = Updates (folded u.table) sets (map (λ x. folded x.column) u.assignments) where'

    abbrev exprs : Checked (List Term)
    exprs = known_all (map (λ x. resolve false (s ∷ []) x.value) u.assignments)

    sets_refused : (f : Fault) → IsFaultOf (faults (resolve_sets (s ∷ []) s u.assignments)) f → IsFaultOf (faults (resolve_change db no_outer (kind.Update u))) f
    sets_refused f why =
        subst (λ (k : Checked Resolved). IsFaultOf (faults k) f) (sym update_is) (left made_of (resolve_sets (s ∷ []) s u.assignments) (resolve_filter (s ∷ []) u.condition) f why)

    pub set_places_refused : (f : Fault) (names : List Name) → names ≡ columns_set u.assignments → IsFaultOf (faults (resolve_places s names)) f → IsFaultOf (faults (resolve_change db no_outer (kind.Update u))) f
    set_places_refused f names are why =
        sets_refused f (left zip (resolve_places s (columns_set u.assignments)) exprs f (subst (λ (ns : List Name). IsFaultOf (faults (resolve_places s ns)) f) are why))

    pub values_refused : (f : Fault) → IsFaultOf (faults exprs) f → IsFaultOf (faults (resolve_change db no_outer (kind.Update u))) f
    values_refused f why = sets_refused f (right zip (resolve_places s (columns_set u.assignments)) exprs f why)

    pub filter_refused : (f : Fault) → IsFaultOf (faults (resolve_filter (s ∷ []) u.condition)) f → IsFaultOf (faults (resolve_change db no_outer (kind.Update u))) f
    filter_refused f why =
        subst (λ (k : Checked Resolved). IsFaultOf (faults k) f) (sym update_is) (right made_of (resolve_sets (s ∷ []) s u.assignments) (resolve_filter (s ∷ []) u.condition) f why)

    pub update_known : (names : List Name) (places : List ℕ) (terms : List Term) (filter : Option Term) → names ≡ columns_set u.assignments → resolve_places s names ≡ Meant places [] → exprs ≡ Meant terms []
        → resolve_filter (s ∷ []) u.condition ≡ Meant filter [] → faults (resolve_change db no_outer (kind.Update u)) ≡ []
    update_known names places terms filter are named valued filtered =
        ap faults update_is
        ∙ none_of_both made_of (resolve_sets (s ∷ []) s u.assignments) (resolve_filter (s ∷ []) u.condition)
        (none_of_both zip (resolve_places s (columns_set u.assignments)) exprs (ap (λ (ns : List Name). faults (resolve_places s ns)) (sym are) ∙ ap faults named) (ap faults valued))
        (ap faults filtered)

-- ---- DELETE

module _ (db : Database) (d : Delete) where
  pub delete_unnamed : (f : Fault) → IsFaultOf (faults (known_map (as_named d.table) (look_up db d.table))) f → IsFaultOf (faults (resolve_change db no_outer (kind.Delete d))) f
  delete_unnamed f why = refused_first (target db d.table) (after_delete d) f (target_refused db d.table f why)

  module _ (s : ScopeSource) (at : IsTarget db d.table s) where
    delete_is : resolve_change db no_outer (kind.Delete d) ≡ after_delete d s
    delete_is = then_good (target db d.table) (after_delete d) s at.is

    pub delete_refused : (f : Fault) → IsFaultOf (faults (resolve_filter (s ∷ []) d.condition)) f → IsFaultOf (faults (resolve_change db no_outer (kind.Delete d))) f
    delete_refused f why = subst (λ (k : Checked Resolved). IsFaultOf (faults k) f) (sym delete_is) (mapped (Deletes (folded d.table)) (resolve_filter (s ∷ []) d.condition) f why)

    pub delete_known : (filter : Option Term) → resolve_filter (s ∷ []) d.condition ≡ Meant filter [] → faults (resolve_change db no_outer (kind.Delete d)) ≡ []
    delete_known filter filtered = ap faults delete_is ∙ none_of_map (Deletes (folded d.table)) (resolve_filter (s ∷ []) d.condition) (ap faults filtered)

-- ---- what it comes to

both_are : (a b : Bool) → a && b ≡ true → (a ≡ true) × (b ≡ true)
both_are true true h = (refl, refl)
both_are true false h = absurd (false≢true h)
both_are false b h = absurd (false≢true h)

-- the view that a change names
pub view_is : (finds : FindsListed) (rows_at : ℕ → List TableRow) (l : Listed) (db : Database) (is : IsOfListed rows_at l db) (name : Name) → is_view_named l name ≡ true
    → (v : ListedView) × (object db (folded name) ≡ Some (AView (as_view v)))
view_is finds rows_at l db is name named =
    let h = both_are (is_none (table_named name l.tables)) (is_some (view_named name l.views)) named in
    by (table_named (folded name) l.tables)
    (ap (λ n. is_none (find (λ t. bytes_eq (folded t.name) n) l.tables)) (folded_twice name) ∙ h.0)
    (ap (λ n. is_some (find (λ (v : ListedView). bytes_eq (folded v.definition.name) n) l.views)) (folded_twice name) ∙ h.1)
    (finds rows_at l db (folded name) is.lists)
  where
    view : (found : Option ListedView) → is_some found ≡ true → MatchOption found (IsNoSource l (folded name) (object db (folded name))) (λ v. object db (folded name) ≡ Some (AView (as_view v))) → (v : ListedView) × (object db (folded name) ≡ Some (AView (as_view v)))
    view None some h = absurd (false≢true some)
    view (Some v) some h = (v, h)

    by : (t : Option Table) → is_none t ≡ true → is_some (view_named (folded name) l.views) ≡ true → MatchOption t (IsNoTable l (folded name) (object db (folded name))) (λ t. object db (folded name) ≡ Some (ATable (with_rows t (rows_at t.root))))
        → (v : ListedView) × (object db (folded name) ≡ Some (AView (as_view v)))
    by (Some t) none some h = absurd (false≢true none)
    by None none some h = view (view_named (folded name) l.views) some h

module _ (binds : BindsAlone) (finds : FindsListed) (rows_at : ℕ → List TableRow) (l : Listed) (db : Database) (is : IsOfListed rows_at l db) (c : Change) (still : SetsOffNothing db c) where
  -- as its names are
  pub refused_as_named : (f : Fault) → IsFaultOf (faults (resolve_change db no_outer c)) f → IsChangeRefusal (statement.Change c) db f
  refused_as_named f (inl memory) = inl (inl (inl memory))
  refused_as_named f (inr has) = inr (inl (inl ((binds db c (refusal_of f) still).1 has)))

  not_refused : faults (resolve_change db no_outer c) ≡ [] → (r : Refusal) → IsFault db c r → ⊥
  not_refused none r fault = nothing (subst (λ (rs : List Refusal). Contains rs r) none ((binds db c r still).0 fault))
    where
      nothing : Contains [] r → ⊥
      nothing has = absurd (omega (arith, has.1))

  -- since it is of a view
  pub refused_as_view : (views : ViewsAreReadOnly) (name : Name) → (aim_of c).target ≡ folded name → is_view_named l name ≡ true → faults (resolve_change db no_outer c) ≡ []
      → IsChangeRefusal (statement.Change c) db fault.ViewReadOnly
  refused_as_view views name aims named none =
      let found = view_is finds rows_at l db is name named in
      inr (inl (inr (not_refused none, subst (λ a. RefusesWith (of_answer a) ViewReadOnly) (sym (views db c (as_view found.0) still (ap (object db) aims ∙ found.1) none)) (0, omega arith, refl))))
