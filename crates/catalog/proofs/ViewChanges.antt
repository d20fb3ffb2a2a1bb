-- A listed database with one view or trigger more, and with one less.
use Rattle.std.proofs.Common.{◌≡◌, refl, sym, ap, subst, ◌∙◌, ℕ, ℤ, Bool, true, false, ◌||◌, List, [], ◌∷◌, ◌++◌, append_assoc, map, filter, not, Some, cond}
use Rattle.std.proofs.lemmas.List.{map-append}
use Rattle.std.proofs.lemmas.List.Elements.{filter-append}
use Rattle.std.specs.List as list
use Rattle.std.specs.List.{list_any}
use Rattle.std.specs.Prelude.{flat_map}
use Rattle.sqlval.specs.Lists.{any_twice}
use Rattle.sqlval.specs.Names.{is_same_name}
use Rattle.sqlval.specs.declared.value.Value.{Value}
use Rattle.catalog.specs.Database.{Name, Object, AView, ATrigger, with_object}
use Rattle.catalog.specs.Listed.{Listed, as_view, index_objects, is_on, is_trigger, is_view, named_among, names_of, objects_of, table_object, treeless_objects, trigger_object, view_object, without_trigger, without_triggers_on, without_view}
use Rattle.catalog.specs.Named.{without}
use Rattle.catalog.specs.NewViews.{ListsNewTrigger, ListsNewView, ListsOtherTriggers, ListsOtherViews, less_trigger, less_view, with_trigger, with_view}
use Rattle.catalog.specs.declared.tables.Trigger.{Trigger}
use Rattle.catalog.specs.declared.tables.View.{View}
use Rattle.catalog.proofs.Dropped.{IsOf, as_listed, as_objects, is_no, less, neither, none_first, stays, triggers_left, turned, views_stay}
use Rattle.catalog.proofs.Found.{names_found}
use Rattle.catalog.proofs.IndexChanges.{finds_none, index_names_of, indexes_stay, is_name, more, none_before, none_behind, once_second, some_first, some_second, table_names, tables_stay}

-- ---- one more

module _ (rows_at : ℕ → List (ℤ × List Value)) (l : Listed) where
  abbrev tables : List (Name × Object)
  tables = map (table_object rows_at) l.tables

  abbrev views : List (Name × Object)
  views = map view_object l.views

  abbrev triggers : List (Name × Object)
  triggers = map trigger_object l.triggers

  abbrev indexes : List (Name × Object)
  indexes = flat_map index_objects l.tables

  views_apart : objects_of rows_at l ≡ (tables ++ views) ++ (triggers ++ indexes)
  views_apart = ap (λ os. tables ++ os) (append_assoc views triggers indexes) ∙ sym (append_assoc tables views (triggers ++ indexes))

  view_more : (v : View) → objects_of rows_at (with_view v l) ≡ (tables ++ views) ++ view_object v ∷ (triggers ++ indexes)
  view_more v =
      ap (λ os. tables ++ ((os ++ triggers) ++ indexes)) (map-append view_object l.views (v ∷ []))
      ∙ (ap (λ os. tables ++ os) (append_assoc (views ++ view_object v ∷ []) triggers indexes ∙ append_assoc views (view_object v ∷ []) (triggers ++ indexes))
      ∙ sym (append_assoc tables views (view_object v ∷ (triggers ++ indexes))))

  triggers_apart : objects_of rows_at l ≡ (tables ++ (views ++ triggers)) ++ indexes
  triggers_apart = sym (append_assoc tables (views ++ triggers) indexes)

  trigger_more : (t : Trigger) → objects_of rows_at (with_trigger t l) ≡ (tables ++ (views ++ triggers)) ++ trigger_object t ∷ indexes
  trigger_more t =
      ap (λ os. tables ++ ((views ++ os) ++ indexes)) (map-append trigger_object l.triggers (t ∷ []))
      ∙ (ap (λ os. tables ++ (os ++ indexes)) (sym (append_assoc views triggers (trigger_object t ∷ [])))
      ∙ (ap (λ os. tables ++ os) (append_assoc (views ++ triggers) (trigger_object t ∷ []) indexes)
      ∙ sym (append_assoc tables (views ++ triggers) (trigger_object t ∷ indexes))))

pub lists_new_view : ListsNewView
lists_new_view rows_at l db v is fresh =
    as_listed rows_at (with_view v l) (with_object db v.definition.name (AView (as_view v))) _ (sym (view_more rows_at l v))
    (more (tables rows_at l ++ views rows_at l) (triggers rows_at l ++ indexes rows_at l) (view_object v) db (subst (λ os. IsOf os db) (views_apart rows_at l) (as_objects rows_at l db is))
    (ap (named_among v.definition.name) (sym (views_apart rows_at l)) ∙ finds_none rows_at l v.definition.name (names_found rows_at v.definition.name l ∙ fresh)))

pub lists_new_trigger : ListsNewTrigger
lists_new_trigger rows_at l db t is fresh =
    as_listed rows_at (with_trigger t l) (with_object db t.definition.name (ATrigger t.definition)) _ (sym (trigger_more rows_at l t))
    (more (tables rows_at l ++ (views rows_at l ++ triggers rows_at l)) (indexes rows_at l) (trigger_object t) db (subst (λ os. IsOf os db) (triggers_apart rows_at l) (as_objects rows_at l db is))
    (ap (named_among t.definition.name) (sym (triggers_apart rows_at l)) ∙ finds_none rows_at l t.definition.name (names_found rows_at t.definition.name l ∙ fresh)))

-- ---- one less

views_left : (name : Name) (views : List View) → filter (stays name) (map view_object views) ≡ map view_object (without_view name views)
views_left name [] = refl
views_left name (v ∷ vs) = by_test (views_left name vs) (is_same_name name v.definition.name) (is_same_name v.definition.name name) (turned name v.definition.name)
  where
    by_test : filter (stays name) (map view_object vs) ≡ map view_object (without_view name vs) → (b c : Bool) → b ≡ c
        → cond (not b) (view_object v ∷ filter (stays name) (map view_object vs)) (filter (stays name) (map view_object vs))
        ≡ map view_object (cond (not c) (v ∷ without_view name vs) (without_view name vs))
    by_test rest true c e = rest ∙ ap (λ c. map view_object (cond (not c) (v ∷ without_view name vs) (without_view name vs))) e
    by_test rest false c e = ap (λ os. view_object v ∷ os) rest ∙ ap (λ c. map view_object (cond (not c) (v ∷ without_view name vs) (without_view name vs))) e

-- of no table or view of the name
named_left : (name : Name) (triggers : List Trigger) → list_any (is_on name) triggers ≡ false → filter (stays name) (map trigger_object triggers) ≡ map trigger_object (without_trigger name triggers)
named_left name [] none = refl
named_left name (t ∷ ts) none =
    let both = neither (is_on name t) (list_any (is_on name) ts) none in
    ap (λ b. cond (not (is_same_name name t.definition.name || b)) (trigger_object t ∷ filter (stays name) (map trigger_object ts)) (filter (stays name) (map trigger_object ts))) both.0
    ∙ by_test (named_left name ts both.1) (is_same_name name t.definition.name) (is_same_name t.definition.name name) (turned name t.definition.name)
  where
    by_test : filter (stays name) (map trigger_object ts) ≡ map trigger_object (without_trigger name ts) → (b c : Bool) → b ≡ c
        → cond (not (b || false)) (trigger_object t ∷ filter (stays name) (map trigger_object ts)) (filter (stays name) (map trigger_object ts))
        ≡ map trigger_object (cond (not c) (t ∷ without_trigger name ts) (without_trigger name ts))
    by_test rest true c e = rest ∙ ap (λ c. map trigger_object (cond (not c) (t ∷ without_trigger name ts) (without_trigger name ts))) e
    by_test rest false c e = ap (λ os. trigger_object t ∷ os) rest ∙ ap (λ c. map trigger_object (cond (not c) (t ∷ without_trigger name ts) (without_trigger name ts))) e

-- what is found has the name
view_there : (name : Name) (views : List View) (v : View) → list.find (is_view name) views ≡ Some v → list_any (is_name name) (map (λ v. v.definition.name) views) ≡ true
view_there name [] v found = absurd cc
view_there name (u ∷ us) v found = by_test (view_there name us v) (is_view name u) found
  where
    by_test : (list.find (is_view name) us ≡ Some v → list_any (is_name name) (map (λ v. v.definition.name) us) ≡ true) → (b : Bool) → cond b (Some u) (list.find (is_view name) us) ≡ Some v
        → (b || list_any (is_name name) (map (λ v. v.definition.name) us)) ≡ true
    by_test rest true found = refl
    by_test rest false found = rest found

trigger_there : (name : Name) (triggers : List Trigger) (t : Trigger) → list.find (is_trigger name) triggers ≡ Some t → list_any (is_name name) (map (λ t. t.definition.name) triggers) ≡ true
trigger_there name [] t found = absurd cc
trigger_there name (u ∷ us) t found = by_test (trigger_there name us t) (is_trigger name u) found
  where
    by_test : (list.find (is_trigger name) us ≡ Some t → list_any (is_name name) (map (λ t. t.definition.name) us) ≡ true) → (b : Bool) → cond b (Some u) (list.find (is_trigger name) us) ≡ Some t
        → (b || list_any (is_name name) (map (λ t. t.definition.name) us)) ≡ true
    by_test rest true found = refl
    by_test rest false found = rest found

module _ (rows_at : ℕ → List (ℤ × List Value)) (name : Name) (l : Listed) (names_once : any_twice is_same_name (names_of l) ≡ false) where
  abbrev table_part : List Name
  table_part = table_names l.tables

  abbrev view_part : List Name
  view_part = map (λ (v : View). v.definition.name) l.views

  abbrev trigger_part : List Name
  trigger_part = map (λ (t : Trigger). t.definition.name) l.triggers

  abbrev index_part : List Name
  index_part = index_names_of l.tables

  treeless_once : any_twice is_same_name ((view_part ++ trigger_part) ++ index_part) ≡ false
  treeless_once = once_second table_part ((view_part ++ trigger_part) ++ index_part) names_once

  seen_once : any_twice is_same_name (view_part ++ (trigger_part ++ index_part)) ≡ false
  seen_once = ap (any_twice is_same_name) (sym (append_assoc view_part trigger_part index_part)) ∙ treeless_once

  -- where one of the views or triggers has the name, no table and no index has it
  no_table : list_any (is_name name) (view_part ++ trigger_part) ≡ true → list_any (is_same_name name) table_part ≡ false
  no_table some = none_before name table_part ((view_part ++ trigger_part) ++ index_part) names_once (some_first (is_name name) (view_part ++ trigger_part) index_part some)

  no_index : list_any (is_name name) (view_part ++ trigger_part) ≡ true → list_any (is_same_name name) index_part ≡ false
  no_index some = none_behind name (view_part ++ trigger_part) index_part treeless_once some

  -- the rest of the objects stays
  left_as : (some : list_any (is_name name) (view_part ++ trigger_part) ≡ true) (treeless : List (Name × Object)) → filter (stays name) (treeless_objects l) ≡ treeless
      → filter (stays name) (objects_of rows_at l) ≡ tables rows_at l ++ (treeless ++ indexes rows_at l)
  left_as some treeless e =
      filter-append (stays name) (tables rows_at l) (treeless_objects l ++ indexes rows_at l)
      ∙ (ap (λ os. os ++ filter (stays name) (treeless_objects l ++ indexes rows_at l)) (tables_stay rows_at name l.tables (no_table some))
      ∙ (ap (λ os. tables rows_at l ++ os) (filter-append (stays name) (treeless_objects l) (indexes rows_at l))
      ∙ (ap (λ os. tables rows_at l ++ (os ++ filter (stays name) (indexes rows_at l))) e
      ∙ ap (λ os. tables rows_at l ++ (treeless ++ os)) (indexes_stay name l.tables (no_table some) (no_index some)))))

  view_less : list_any (is_name name) view_part ≡ true → filter (stays name) (objects_of rows_at l) ≡ objects_of rows_at (less_view name l)
  view_less some =
      left_as (some_first (is_name name) view_part trigger_part some) (map view_object (without_view name l.views) ++ map trigger_object (without_triggers_on name l.triggers))
      (filter-append (stays name) (views rows_at l) (triggers rows_at l)
      ∙ (ap (λ os. os ++ filter (stays name) (triggers rows_at l)) (views_left name l.views)
      ∙ ap (λ os. map view_object (without_view name l.views) ++ os) (triggers_left name l.triggers none)))
    where
      none : list_any (is_same_name name) trigger_part ≡ false
      none = none_first (is_same_name name) trigger_part index_part (none_behind name view_part (trigger_part ++ index_part) seen_once some)

  trigger_less : list_any (is_name name) trigger_part ≡ true → list_any (is_on name) l.triggers ≡ false → filter (stays name) (objects_of rows_at l) ≡ objects_of rows_at (less_trigger name l)
  trigger_less some no_on =
      left_as (some_second (is_name name) view_part trigger_part some) (views rows_at l ++ map trigger_object (without_trigger name l.triggers))
      (filter-append (stays name) (views rows_at l) (triggers rows_at l)
      ∙ (ap (λ os. os ++ filter (stays name) (triggers rows_at l)) (views_stay name l.views none)
      ∙ ap (λ os. views rows_at l ++ os) (named_left name l.triggers no_on)))
    where
      none : list_any (is_same_name name) view_part ≡ false
      none = none_before name view_part (trigger_part ++ index_part) seen_once (some_first (is_name name) trigger_part index_part some)

pub lists_other_views : ListsOtherViews
lists_other_views rows_at l db name v is found =
    as_listed rows_at (less_view name l) (without name db) (filter (stays name) (objects_of rows_at l))
    (view_less rows_at name l (is_no (any_twice is_same_name (names_of l)) is.once) (view_there name l.views v found))
    (less name (objects_of rows_at l) db (as_objects rows_at l db is))

pub lists_other_triggers : ListsOtherTriggers
lists_other_triggers rows_at l db name t is found no_on =
    as_listed rows_at (less_trigger name l) (without name db) (filter (stays name) (objects_of rows_at l))
    (trigger_less rows_at name l (is_no (any_twice is_same_name (names_of l)) is.once) (trigger_there name l.triggers t found) no_on)
    (less name (objects_of rows_at l) db (as_objects rows_at l db is))
