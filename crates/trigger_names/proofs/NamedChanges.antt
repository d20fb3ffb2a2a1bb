-- A change, by its table or view and what follows it.
use Rattle.std.proofs.Common.{◌≡◌, refl, sym, ap, subst, ◌∙◌, ℕ, Bool, true, false, List, [], ◌∷◌, map, Option, Some}
use Rattle.std.specs.Prelude.{zip}
use Rattle.sqlval.specs.Names.{folded}
use Rattle.sqlval.specs.Refusals.{Refusal}
use Rattle.sqlval.specs.declared.fault.Fault.{Fault}
use Rattle.sql_syntax.specs.declared.change.Change.TheVariants as kind
use Rattle.sql_syntax.specs.declared.change.Delete.{Delete}
use Rattle.sql_syntax.specs.declared.change.Insert.{Insert}
use Rattle.sql_syntax.specs.declared.change.Update.{Update}
use Rattle.catalog.specs.Database.{Database, Name}
use Rattle.query_names.specs.Bound.{IsFaultOf}
use Rattle.query_names.specs.Checked.{Checked, Meant, both, faults, good, known_all, known_map, meant, noted, ◌and_then◌}
use Rattle.query_names.specs.Expressions.{resolve}
use Rattle.query_names.specs.Queries.{resolve_filter}
use Rattle.query_names.specs.Scopes.{resolve_places, source_of}
use Rattle.query_names.specs.Views.{look_up}
use Rattle.query_names.specs.declared.scope.ScopeColumn.{ScopeColumn}
use Rattle.query_names.specs.declared.scope.ScopeSource.{ScopeSource}
use Rattle.query_names.proofs.PartRefusals.{left, mapped, right}
use Rattle.query_terms.specs.Terms.{Term}
use Rattle.query_terms.specs.Values.{Row}
use Rattle.query_bind.specs.Assigned.{columns_set}
use Rattle.query_bind.proofs.Chains.{in_front, refused_first, then_good}
use Rattle.row_change.specs.Changes.{Deletes, Given, Inserts, Outer, Resolved, Updates, insert_places, resolve_change, resolve_given, resolve_sets, target, wanted}
use Rattle.trigger_names.specs.Resolved.{row_seen}

-- ---- the table or view

-- what a name stands for, as a source: nothing of it is refused
pub record IsTarget (db : Database) (name : Name) (source : ScopeSource) : Type 0 where
  pub is : target db name ≡ Meant source []
  pub known : source.is_known ≡ true

abbrev as_named : Name → List ScopeColumn × Bool → ScopeSource
as_named name found = source_of (folded name) (good found)

pub target_is : (db : Database) (name : Name) (source : ScopeSource) → known_map (as_named name) (look_up db name) ≡ Meant source [] → IsTarget db name source
target_is db name source is = by (look_up db name) refl is
  where
    nothing : {B : Type 0} (r : Refusal) (rs : List Refusal) → r ∷ rs ≡ [] → B
    nothing r rs e = absurd cc

    by : (k : Checked (List ScopeColumn × Bool)) → look_up db name ≡ k → known_map (as_named name) k ≡ Meant source [] → IsTarget db name source
    by (Meant x (r ∷ rs)) here e = nothing r rs (ap faults e)
    by (Meant x []) here e = record {
      is = ap (λ k. noted k and_then λ found. good (source_of (folded name) found)) here ∙ e;
      known = sym (ap (λ (k : Checked ScopeSource). (meant k).is_known) e);
    }

target_refused : (db : Database) (name : Name) (f : Fault) → IsFaultOf (faults (known_map (as_named name) (look_up db name))) f → IsFaultOf (faults (target db name)) f
target_refused db name f why = by (look_up db name) why
  where
    by : (k : Checked (List ScopeColumn × Bool)) → IsFaultOf (faults (known_map (as_named name) k)) f → IsFaultOf (faults (noted k and_then λ found. good (source_of (folded name) found))) f
    by (Meant x rs) h = in_front rs [] f h

-- ---- parts that are known

both_known : {A B C : Type 0} (f : A → B → C) (a : Checked A) (b : Checked B) (x : A) (y : B) → a ≡ Meant x [] → b ≡ Meant y [] → both f a b ≡ Meant (f x y) []
both_known f a b x y e d = ap (λ k. both f k b) e ∙ ap (both f (Meant x [])) d

-- pairs of two lists, of which the first is known
pub pairs_are : {A B : Type 0} (a : Checked (List A)) (b : Checked (List B)) (xs : List A) → a ≡ Meant xs [] → both zip a b ≡ known_map (zip xs) b
pairs_are {A} {B} a b xs e = ap (λ k. both zip k b) e ∙ by b
  where
    by : (k : Checked (List B)) → both zip (Meant xs []) k ≡ known_map (zip xs) k
    by (Meant ys rs) = refl

module _ (db : Database) (outer : List ScopeSource) (held : List Row) where
  -- the trigger around, with these rows
  abbrev pub around : Outer
  around = record { scope = outer; rows = held }

  -- ---- INSERT

  module _ (i : Insert) where
    abbrev after_insert : ScopeSource → Checked Resolved
    after_insert s = both (Inserts (folded i.table)) (insert_places s i.columns) (resolve_given db around (wanted s i.columns) i.source)

    pub insert_unnamed : (f : Fault) → IsFaultOf (faults (known_map (as_named i.table) (look_up db i.table))) f → IsFaultOf (faults (resolve_change db around (kind.Insert i))) f
    insert_unnamed f why = refused_first (target db i.table) after_insert f (target_refused db i.table f why)

    module _ (s : ScopeSource) (at : IsTarget db i.table s) where
      insert_is : resolve_change db around (kind.Insert i) ≡ after_insert s
      insert_is = then_good (target db i.table) after_insert s at.is

      pub places_refused : (f : Fault) → IsFaultOf (faults (insert_places s i.columns)) f → IsFaultOf (faults (resolve_change db around (kind.Insert i))) f
      places_refused f why =
          subst (λ (k : Checked Resolved). IsFaultOf (faults k) f) (sym insert_is)
          (left (Inserts (folded i.table)) (insert_places s i.columns) (resolve_given db around (wanted s i.columns) i.source) f why)

      module _ (count : ℕ) (want : wanted s i.columns ≡ Some count) where
        pub given_refused : (f : Fault) → IsFaultOf (faults (resolve_given db around (Some count) i.source)) f → IsFaultOf (faults (resolve_change db around (kind.Insert i))) f
        given_refused f why =
            subst (λ (k : Checked Resolved). IsFaultOf (faults k) f) (sym insert_is)
            (right (Inserts (folded i.table)) (insert_places s i.columns) (resolve_given db around (wanted s i.columns) i.source) f
            (subst (λ (w : Option ℕ). IsFaultOf (faults (resolve_given db around w i.source)) f) (sym want) why))

        pub insert_known : (places : List ℕ) (given : Given) → insert_places s i.columns ≡ Meant places [] → resolve_given db around (Some count) i.source ≡ Meant given []
            → resolve_change db around (kind.Insert i) ≡ Meant (Inserts (folded i.table) places given) []
        insert_known places given placed is =
            insert_is
            ∙ both_known (Inserts (folded i.table)) (insert_places s i.columns) (resolve_given db around (wanted s i.columns) i.source) places given placed
            (ap (λ (w : Option ℕ). resolve_given db around w i.source) want ∙ is)

  -- ---- UPDATE

  module _ (u : Update) where
    abbrev made_of : List (ℕ × Term) → Option Term → Resolved
    made_of sets where' = Updates (folded u.table) sets (map (λ x. folded x.column) u.assignments) where'

    abbrev after_update : ScopeSource → Checked Resolved
    after_update s = both made_of (resolve_sets (row_seen outer s) s u.assignments) (resolve_filter (row_seen outer s) u.condition)

    pub update_unnamed : (f : Fault) → IsFaultOf (faults (known_map (as_named u.table) (look_up db u.table))) f → IsFaultOf (faults (resolve_change db around (kind.Update u))) f
    update_unnamed f why = refused_first (target db u.table) after_update f (target_refused db u.table f why)

    module _ (s : ScopeSource) (at : IsTarget db u.table s) where
      update_is : resolve_change db around (kind.Update u) ≡ after_update s
      update_is = then_good (target db u.table) after_update s at.is

      abbrev exprs : Checked (List Term)
      exprs = known_all (map (λ x. resolve false (row_seen outer s) x.value) u.assignments)

      sets_refused : (f : Fault) → IsFaultOf (faults (resolve_sets (row_seen outer s) s u.assignments)) f → IsFaultOf (faults (resolve_change db around (kind.Update u))) f
      sets_refused f why =
          subst (λ (k : Checked Resolved). IsFaultOf (faults k) f) (sym update_is)
          (left made_of (resolve_sets (row_seen outer s) s u.assignments) (resolve_filter (row_seen outer s) u.condition) f why)

      pub set_places_refused : (f : Fault) → IsFaultOf (faults (resolve_places s (columns_set u.assignments))) f → IsFaultOf (faults (resolve_change db around (kind.Update u))) f
      set_places_refused f why = sets_refused f (left zip (resolve_places s (columns_set u.assignments)) exprs f why)

      module _ (places : List ℕ) (placed : resolve_places s (columns_set u.assignments) ≡ Meant places []) where
        sets_are : resolve_sets (row_seen outer s) s u.assignments ≡ known_map (zip places) exprs
        sets_are = pairs_are (resolve_places s (columns_set u.assignments)) exprs places placed

        pub values_refused : (f : Fault) → IsFaultOf (faults (known_map (zip places) exprs)) f → IsFaultOf (faults (resolve_change db around (kind.Update u))) f
        values_refused f why = sets_refused f (subst (λ (k : Checked (List (ℕ × Term))). IsFaultOf (faults k) f) (sym sets_are) why)

        pub filter_refused : (f : Fault) → IsFaultOf (faults (resolve_filter (row_seen outer s) u.condition)) f → IsFaultOf (faults (resolve_change db around (kind.Update u))) f
        filter_refused f why =
            subst (λ (k : Checked Resolved). IsFaultOf (faults k) f) (sym update_is)
            (right made_of (resolve_sets (row_seen outer s) s u.assignments) (resolve_filter (row_seen outer s) u.condition) f why)

        pub update_known : (sets : List (ℕ × Term)) (filter : Option Term) → known_map (zip places) exprs ≡ Meant sets [] → resolve_filter (row_seen outer s) u.condition ≡ Meant filter []
            → resolve_change db around (kind.Update u) ≡ Meant (made_of sets filter) []
        update_known sets filter valued filtered =
            update_is ∙ both_known made_of (resolve_sets (row_seen outer s) s u.assignments) (resolve_filter (row_seen outer s) u.condition) sets filter (sets_are ∙ valued) filtered

  -- ---- DELETE

  module _ (d : Delete) where
    abbrev after_delete : ScopeSource → Checked Resolved
    after_delete s = known_map (Deletes (folded d.table)) (resolve_filter (row_seen outer s) d.condition)

    pub delete_unnamed : (f : Fault) → IsFaultOf (faults (known_map (as_named d.table) (look_up db d.table))) f → IsFaultOf (faults (resolve_change db around (kind.Delete d))) f
    delete_unnamed f why = refused_first (target db d.table) after_delete f (target_refused db d.table f why)

    module _ (s : ScopeSource) (at : IsTarget db d.table s) where
      delete_is : resolve_change db around (kind.Delete d) ≡ after_delete s
      delete_is = then_good (target db d.table) after_delete s at.is

      pub delete_refused : (f : Fault) → IsFaultOf (faults (resolve_filter (row_seen outer s) d.condition)) f → IsFaultOf (faults (resolve_change db around (kind.Delete d))) f
      delete_refused f why =
          subst (λ (k : Checked Resolved). IsFaultOf (faults k) f) (sym delete_is) (mapped (Deletes (folded d.table)) (resolve_filter (row_seen outer s) d.condition) f why)

      pub delete_known : (filter : Option Term) → resolve_filter (row_seen outer s) d.condition ≡ Meant filter [] → resolve_change db around (kind.Delete d) ≡ Meant (Deletes (folded d.table) filter) []
      delete_known filter filtered = delete_is ∙ ap (known_map (Deletes (folded d.table))) filtered
