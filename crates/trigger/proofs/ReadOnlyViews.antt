-- Changes of views that set no trigger off.
use Rattle.std.proofs.Common.{◌≡◌, refl, ap, ◌∙◌, ℕ, List, [], ◌∷◌, map, Option, Some, Err, true}
use Rattle.sqlval.specs.Names.{folded}
use Rattle.sqlval.specs.Refusals.{Answer, ViewReadOnly}
use Rattle.sql_syntax.specs.declared.change.Change.{Change}
use Rattle.sql_syntax.specs.declared.change.Change.TheVariants as statement
use Rattle.sql_syntax.specs.declared.change.Delete.{Delete}
use Rattle.sql_syntax.specs.declared.change.Insert.{Insert}
use Rattle.sql_syntax.specs.declared.change.Update.{Update}
use Rattle.sql_syntax.specs.declared.create.TriggerTime.TheVariants.{InsteadOf}
use Rattle.catalog.specs.Database.{AView, Database, Name, View, object}
use Rattle.query_names.specs.Checked.{Checked, Meant, both, faults, known_map, known_then, meant, ◌and_then◌}
use Rattle.query_names.specs.Queries.{resolve_filter}
use Rattle.query_names.specs.declared.scope.ScopeSource.{ScopeSource}
use Rattle.query_terms.specs.Terms.{Term}
use Rattle.row_change.specs.Changes.{Deletes, Given, Inserts, Resolved, Updates, insert_places, no_outer, resolve_change, resolve_given, resolve_sets, target, wanted}
use Rattle.row_change.specs.RowChanges.{Deleting, Inserting, Updating, is_quiet}
use Rattle.trigger.specs.Effects.{change, programs, run_resolved}
use Rattle.trigger.specs.Laws.{ViewsAreReadOnly}
use Rattle.trigger.proofs.OnlyTables.{quiet_at}

-- what isn't refused is what it stands for
known : {A : Type 0} (k : Checked A) → faults k ≡ [] → k ≡ Meant (meant k) []
known (Meant x rs) h = ap (Meant x) h

meant_then : {A B : Type 0} (k : Checked A) (f : A → Checked B) → meant (k and_then f) ≡ meant (f (meant k))
meant_then {B = B} (Meant x rs) f = by (f x)
  where
    by : (k : Checked B) → meant (Meant x rs and_then λ y. k) ≡ meant k
    by (Meant y ss) = refl

meant_both : {A B C : Type 0} (f : A → B → C) (a : Checked A) (b : Checked B) → meant (both f a b) ≡ f (meant a) (meant b)
meant_both f (Meant x rs) (Meant y ss) = refl

meant_map : {A B : Type 0} (f : A → B) (k : Checked A) → meant (known_map f k) ≡ f (meant k)
meant_map f (Meant x rs) = refl

-- of a view
module _ (db : Database) (n : Name) (v : View) (found : object db n ≡ Some (AView v)) where
  inserts : is_quiet Inserting db n ≡ true → (places : List ℕ) (given : Given) → run_resolved (programs 64) [] no_outer db (Inserts n places given) ≡ Err ViewReadOnly
  inserts quiet places given = rw found (rw (quiet_at InsteadOf Inserting db n quiet) refl)

  updates : (sets : List (ℕ × Term)) (set : List Name) → is_quiet (Updating set) db n ≡ true → (condition : Option Term) → run_resolved (programs 64) [] no_outer db (Updates n sets set condition) ≡ Err ViewReadOnly
  updates sets set quiet condition = rw found (rw (quiet_at InsteadOf (Updating set) db n quiet) refl)

  deletes : is_quiet Deleting db n ≡ true → (condition : Option Term) → run_resolved (programs 64) [] no_outer db (Deletes n condition) ≡ Err ViewReadOnly
  deletes quiet condition = rw found (rw (quiet_at InsteadOf Deleting db n quiet) refl)

-- ---- a change whose names are known

abbrev run : Database → Checked Resolved → Answer Database
run db k = known_then k (run_resolved (programs 64) [] no_outer db)

module _ (db : Database) where
  -- it comes to what is meant
  as_meant : (c : Change) (is : Resolved) → faults (resolve_change db no_outer c) ≡ [] → meant (resolve_change db no_outer c) ≡ is → change db c ≡ run_resolved (programs 64) [] no_outer db is
  as_meant c is none e = ap (run db) (known (resolve_change db no_outer c) none) ∙ ap (run_resolved (programs 64) [] no_outer db) e

  module _ (i : Insert) where
    abbrev after_insert : ScopeSource → Checked Resolved
    after_insert s = both (Inserts (folded i.table)) (insert_places s i.columns) (resolve_given db no_outer (wanted s i.columns) i.source)

    of_insert : (s : ScopeSource) → meant (after_insert s) ≡ Inserts (folded i.table) (meant (insert_places s i.columns)) (meant (resolve_given db no_outer (wanted s i.columns) i.source))
    of_insert s = meant_both (Inserts (folded i.table)) (insert_places s i.columns) (resolve_given db no_outer (wanted s i.columns) i.source)

  module _ (u : Update) where
    abbrev as_update : List (ℕ × Term) → Option Term → Resolved
    as_update sets where' = Updates (folded u.table) sets (map (λ x. folded x.column) u.assignments) where'

    abbrev after_update : ScopeSource → Checked Resolved
    after_update s = both as_update (resolve_sets (s ∷ []) s u.assignments) (resolve_filter (s ∷ []) u.condition)

    of_update : (s : ScopeSource) → meant (after_update s) ≡ as_update (meant (resolve_sets (s ∷ []) s u.assignments)) (meant (resolve_filter (s ∷ []) u.condition))
    of_update s = meant_both as_update (resolve_sets (s ∷ []) s u.assignments) (resolve_filter (s ∷ []) u.condition)

  module _ (d : Delete) where
    abbrev after_delete : ScopeSource → Checked Resolved
    after_delete s = known_map (Deletes (folded d.table)) (resolve_filter (s ∷ []) d.condition)

    of_delete : (s : ScopeSource) → meant (after_delete s) ≡ Deletes (folded d.table) (meant (resolve_filter (s ∷ []) d.condition))
    of_delete s = meant_map (Deletes (folded d.table)) (resolve_filter (s ∷ []) d.condition)

pub read_only : ViewsAreReadOnly
read_only db (statement.Insert i) v quiet found none =
    let s = meant (target db i.table) in
    as_meant db (statement.Insert i) (Inserts (folded i.table) (meant (insert_places s i.columns)) (meant (resolve_given db no_outer (wanted s i.columns) i.source))) none
    (meant_then (target db i.table) (after_insert db i) ∙ of_insert db i s)
    ∙ inserts db (folded i.table) v found quiet (meant (insert_places s i.columns)) (meant (resolve_given db no_outer (wanted s i.columns) i.source))
read_only db (statement.Update u) v quiet found none =
    let s = meant (target db u.table) in
    as_meant db (statement.Update u) (as_update db u (meant (resolve_sets (s ∷ []) s u.assignments)) (meant (resolve_filter (s ∷ []) u.condition))) none
    (meant_then (target db u.table) (after_update db u) ∙ of_update db u s)
    ∙ updates db (folded u.table) v found (meant (resolve_sets (s ∷ []) s u.assignments)) (map (λ x. folded x.column) u.assignments) quiet (meant (resolve_filter (s ∷ []) u.condition))
read_only db (statement.Delete d) v quiet found none =
    let s = meant (target db d.table) in
    as_meant db (statement.Delete d) (Deletes (folded d.table) (meant (resolve_filter (s ∷ []) d.condition))) none
    (meant_then (target db d.table) (after_delete db d) ∙ of_delete db d s)
    ∙ deletes db (folded d.table) v found quiet (meant (resolve_filter (s ∷ []) d.condition))
