-- The triggers of a listed database that pass a test, in the order of their names.
use Rattle.std.proofs.Common.{◌≡◌, refl, sym, ap, ◌∙◌, ℕ, ℤ, Bool, true, false, List, [], ◌∷◌, ◌++◌, map, Option, Some, None, cond}
use Rattle.std.proofs.lemmas.Bool.{false≢true}
use Rattle.std.proofs.lemmas.Cmp.{nat_list_cmp_total}
use Rattle.std.proofs.lemmas.Map.Text.{is_eq-slice_cmp}
use Rattle.std.specs.FinMap.Entries.{put, find, find-put, by_order, below_all, is_sorted}
use Rattle.std.specs.List as list
use Rattle.std.specs.List.{cons_option, filter_map, list_any}
use Rattle.std.specs.Ordering.{is_eq, is_gt, is_lt}
use Rattle.std.specs.Prelude.{filter, flat_map, option_map}
use Rattle.std.specs.Str.{bytes_eq}
use Rattle.std.specs.declared.cmp.Ordering.{Ordering}
use Rattle.std.specs.declared.cmp.Ordering.TheVariants.{Less, Equal, Greater}
use Rattle.sqlval.specs.Lists.{any_twice, placed, sorted}
use Rattle.sqlval.specs.Names.{folded, is_same_name}
use Rattle.sqlval.specs.declared.value.Value.{Value}
use Rattle.sql_syntax.specs.declared.create.TriggerDefinition.{TriggerDefinition}
use Rattle.catalog.specs.Database.{Name, Database, Object, ATable, AnIndex, AView, ATrigger, name_order, object, with_object}
use Rattle.catalog.specs.Listed.{Listed, as_index, index_objects, named_among, names_of, objects_of, table_object, treeless_objects, trigger_object, view_object}
use Rattle.catalog.specs.Named.{IsNamed, IsOfListed}
use Rattle.catalog.specs.declared.tables.Index.{Index as ListedIndex}
use Rattle.catalog.specs.declared.tables.Table.{Table}
use Rattle.catalog.specs.declared.tables.Trigger.{Trigger}
use Rattle.catalog.specs.declared.tables.View.{View}
use Rattle.catalog.proofs.NamedDatabases.{in_order, keeps_named, one_database, same_test}
use Rattle.trigger_bind.proofs.Tests.{both_true, first_true, is_no, neither, rest_true}

-- ---- tests

pub turned : (a b : Name) → bytes_eq a b ≡ bytes_eq b a
turned a b = sym (is_eq-slice_cmp a b) ∙ same_test a b

-- ---- the database that some objects make

abbrev made : List (Name × Object) → Database
made [] = []
made (o ∷ os) = with_object (made os) o.0 o.1

made_named : (os : List (Name × Object)) → IsNamed (made os)
made_named [] = record { rising = refl; each_folded = tt }
made_named (o ∷ os) = keeps_named (made os) o.0 o.1 (made_named os)

made_finds : (os : List (Name × Object)) (name : Name) → object (made os) name ≡ named_among name os
made_finds [] name = refl
made_finds (o ∷ os) name =
    find-put name_order nat_list_cmp_total (folded name) (folded o.0) o.1 (made os)
    ∙ (ap (λ b. cond b (Some o.1) (object (made os) name)) (same_test (folded name) (folded o.0))
    ∙ (ap (cond (is_same_name o.0 name) (Some o.1)) (made_finds os name) ∙ by_test (is_same_name o.0 name)))
  where
    by_test : (b : Bool) → cond b (Some o.1) (named_among name os) ≡ option_map (λ (x : Name × Object). x.1) (cond b (Some o) (list.find (λ (x : Name × Object). is_same_name x.0 name) os))
    by_test true = refl
    by_test false = refl

none_named : (name : Name) (os : List (Name × Object)) → list_any (is_same_name name) (map (λ o. o.0) os) ≡ false → named_among name os ≡ None
none_named name [] h = refl
none_named name (o ∷ os) h =
    let parts = neither (is_same_name name o.0) (list_any (is_same_name name) (map (λ o. o.0) os)) h in
    ap (λ b. option_map (λ (x : Name × Object). x.1) (cond b (Some o) (list.find (λ (x : Name × Object). is_same_name x.0 name) os))) (turned (folded o.0) (folded name) ∙ parts.0)
    ∙ none_named name os parts.1

-- ---- names of listed objects

abbrev name_of : Name × Object → Name
name_of o = o.0

module _ (rows_at : ℕ → List (ℤ × List Value)) where
  index_names_of : (t : Table) (is : List ListedIndex) (os : List (Name × Object)) (names : List Name) → map name_of os ≡ names
      → map name_of (map (λ (i : ListedIndex). (i.name, AnIndex (as_index t i))) is ++ os) ≡ map (λ (i : ListedIndex). i.name) is ++ names
  index_names_of t [] os names h = h
  index_names_of t (i ∷ is) os names h = ap (λ ns. i.name ∷ ns) (index_names_of t is os names h)

  index_names : (ts : List Table) → map name_of (flat_map index_objects ts) ≡ flat_map (λ (t : Table). map (λ (i : ListedIndex). i.name) t.indexes) ts
  index_names [] = refl
  index_names (t ∷ ts) = index_names_of t t.indexes (flat_map index_objects ts) _ (index_names ts)

  trigger_names : (ts : List Trigger) (os : List (Name × Object)) (names : List Name) → map name_of os ≡ names
      → map name_of (map trigger_object ts ++ os) ≡ map (λ (t : Trigger). t.definition.name) ts ++ names
  trigger_names [] os names h = h
  trigger_names (t ∷ ts) os names h = ap (λ ns. t.definition.name ∷ ns) (trigger_names ts os names h)

  treeless : (vs : List View) (ts : List Trigger) (os : List (Name × Object)) (names : List Name) → map name_of os ≡ names
      → map name_of ((map view_object vs ++ map trigger_object ts) ++ os) ≡ (map (λ (v : View). v.definition.name) vs ++ map (λ (t : Trigger). t.definition.name) ts) ++ names
  treeless [] ts os names h = trigger_names ts os names h
  treeless (v ∷ vs) ts os names h = ap (λ ns. v.definition.name ∷ ns) (treeless vs ts os names h)

  table_names : (ts : List Table) (os : List (Name × Object)) (names : List Name) → map name_of os ≡ names
      → map name_of (map (table_object rows_at) ts ++ os) ≡ map (λ (t : Table). t.name) ts ++ names
  table_names [] os names h = h
  table_names (t ∷ ts) os names h = ap (λ ns. t.name ∷ ns) (table_names ts os names h)

  names_are : (l : Listed) → map name_of (objects_of rows_at l) ≡ names_of l
  names_are l = table_names l.tables (treeless_objects l ++ flat_map index_objects l.tables) _ (treeless l.views l.triggers (flat_map index_objects l.tables) _ (index_names l.tables))

-- ---- sorted lists

module _ {A B : Type 0} (f : A → B) (cmp : B → B → Ordering) where
  placed_map : (x : A) (ys : List A) → placed cmp (f x) (map f ys) ≡ map f (placed (λ a b. cmp (f a) (f b)) x ys)
  placed_map x [] = refl
  placed_map x (y ∷ ys) = by (is_gt (cmp (f x) (f y))) (placed_map x ys)
    where
      by : (b : Bool) → placed cmp (f x) (map f ys) ≡ map f (placed (λ a b. cmp (f a) (f b)) x ys)
          → cond b (f y ∷ placed cmp (f x) (map f ys)) (f x ∷ f y ∷ map f ys) ≡ map f (cond b (y ∷ placed (λ a b. cmp (f a) (f b)) x ys) (x ∷ y ∷ ys))
      by true rest = ap (λ zs. f y ∷ zs) rest
      by false rest = refl

  pub sorted_map : (xs : List A) → sorted cmp (map f xs) ≡ map f (sorted (λ a b. cmp (f a) (f b)) xs)
  sorted_map [] = refl
  sorted_map (x ∷ xs) = ap (placed cmp (f x)) (sorted_map xs) ∙ placed_map x (sorted (λ a b. cmp (f a) (f b)) xs)

-- ---- what passes a test, of all objects

abbrev Entry : Type 0
Entry = Name × TriggerDefinition

abbrev pub entry_order : Entry → Entry → Ordering
entry_order a b = name_order a.0 b.0

abbrev some_entry : Name → TriggerDefinition → Option Entry
some_entry k d = Some (k, d)

less : (o : Ordering) → is_lt o ≡ true → o ≡ Less
less Less h = refl
less Equal h = absurd (false≢true h)
less Greater h = absurd (false≢true h)

not_greater : (o : Ordering) → is_lt o ≡ true → is_gt o ≡ false
not_greater Less h = refl
not_greater Equal h = refl
not_greater Greater h = absurd (false≢true h)

-- what is before a name is before those that follow it
before_all : (es : Database) (x y : Name) → name_order x y ≡ Less → below_all name_order y es ≡ true → below_all name_order x es ≡ true
before_all [] x y p h = refl
before_all (e ∷ es) x y p h =
    both_true (is_lt (name_order x e.0)) (below_all name_order x es)
    (ap is_lt (nat_list_cmp_total.trans x y e.0 p (less _ (first_true _ (below_all name_order y es) h))))
    (before_all es x y p (rest_true _ (below_all name_order y es) h))

module _ (sel : TriggerDefinition → Bool) where
  abbrev pub chosen : Name × Object → Option (Name × TriggerDefinition)
  chosen (k, ATrigger d) = cond (sel d) (Some (k, d)) None
  chosen _ = None

  abbrev pub gather : Database → List (Name × TriggerDefinition)
  gather db = filter_map chosen db

  in_front : (k : Name) (d : TriggerDefinition) (es : Database) → below_all name_order k es ≡ true → placed entry_order (k, d) (gather es) ≡ (k, d) ∷ gather es
  in_front k d [] h = refl
  in_front k d ((j, ATable t) ∷ es) h = in_front k d es (rest_true _ (below_all name_order k es) h)
  in_front k d ((j, AnIndex i) ∷ es) h = in_front k d es (rest_true _ (below_all name_order k es) h)
  in_front k d ((j, AView v) ∷ es) h = in_front k d es (rest_true _ (below_all name_order k es) h)
  in_front k d ((j, ATrigger t) ∷ es) h = by (sel t) (in_front k d es (rest_true _ (below_all name_order k es) h))
    where
      by : (b : Bool) → placed entry_order (k, d) (gather es) ≡ (k, d) ∷ gather es
          → placed entry_order (k, d) (cons_option (cond b (Some (j, t)) None) (gather es)) ≡ (k, d) ∷ cons_option (cond b (Some (j, t)) None) (gather es)
      by true rest =
          ap (λ b. cond b ((j, t) ∷ placed entry_order (k, d) (gather es)) ((k, d) ∷ (j, t) ∷ gather es)) (not_greater (name_order k j) (first_true _ (below_all name_order k es) h))
      by false rest = rest

  -- a new name is in none of the entries
  after : (k : Name) (e : Name × Object) (es : Database) → find name_order k (e ∷ es) ≡ None → (is_eq (name_order k e.0) ≡ false) × (find name_order k es ≡ None)
  after k e es h = by (is_eq (name_order k e.0)) h
    where
      by : (b : Bool) → cond b (Some e.1) (find name_order k es) ≡ None → (b ≡ false) × (find name_order k es ≡ None)
      by true h = absurd cc
      by false h = (refl, h)

  put_passes : (k : Name) (o : Object) (es : Database) → chosen (k, o) ≡ None → find name_order k es ≡ None → gather (put name_order k o es) ≡ gather es
  put_passes k o [] none new = ap (λ c. cons_option c []) none
  put_passes k o (e ∷ es) none new = by (name_order k e.0) refl (put_passes k o es none (after k e es new).1)
    where
      by : (r : Ordering) → name_order k e.0 ≡ r → gather (put name_order k o es) ≡ gather es
          → gather (by_order r ((k, o) ∷ e ∷ es) ((e.0, o) ∷ es) (e ∷ put name_order k o es)) ≡ gather (e ∷ es)
      by Less is rest = ap (λ c. cons_option c (gather (e ∷ es))) none
      by Equal is rest = absurd (false≢true (sym (after k e es new).0 ∙ ap is_eq is))
      by Greater is rest = ap (cons_option (chosen e)) rest

  put_adds : (k : Name) (d : TriggerDefinition) (es : Database) → sel d ≡ true → find name_order k es ≡ None → is_sorted name_order es ≡ true
      → gather (put name_order k (ATrigger d) es) ≡ placed entry_order (k, d) (gather es)
  put_adds k d [] so new rising = ap (λ b. cons_option (cond b (Some (k, d)) None) []) so
  put_adds k d (e ∷ es) so new rising = by (name_order k e.0) refl (put_adds k d es so (after k e es new).1 (rest_true (below_all name_order e.0 es) (is_sorted name_order es) rising))
    where
      onto : (o : Object) → is_gt (name_order k e.0) ≡ true → cons_option (chosen (e.0, o)) (placed entry_order (k, d) (gather es)) ≡ placed entry_order (k, d) (cons_option (chosen (e.0, o)) (gather es))
      onto (ATable t) gt = refl
      onto (AnIndex i) gt = refl
      onto (AView v) gt = refl
      onto (ATrigger t) gt = by_test (sel t)
        where
          by_test : (b : Bool) → cons_option (cond b (Some (e.0, t)) None) (placed entry_order (k, d) (gather es))
              ≡ placed entry_order (k, d) (cons_option (cond b (Some (e.0, t)) None) (gather es))
          by_test true = sym (ap (λ b. cond b ((e.0, t) ∷ placed entry_order (k, d) (gather es)) ((k, d) ∷ (e.0, t) ∷ gather es)) gt)
          by_test false = refl

      by : (r : Ordering) → name_order k e.0 ≡ r → gather (put name_order k (ATrigger d) es) ≡ placed entry_order (k, d) (gather es)
          → gather (by_order r ((k, ATrigger d) ∷ e ∷ es) ((e.0, ATrigger d) ∷ es) (e ∷ put name_order k (ATrigger d) es)) ≡ placed entry_order (k, d) (gather (e ∷ es))
      by Less is rest =
          ap (λ b. cons_option (cond b (Some (k, d)) None) (gather (e ∷ es))) so
          ∙ sym (in_front k d (e ∷ es) (both_true (is_lt (name_order k e.0)) (below_all name_order k es) (ap is_lt is) (before_all es k e.0 is (first_true (below_all name_order e.0 es) (is_sorted name_order es) rising))))
      by Equal is rest = absurd (false≢true (sym (after k e es new).0 ∙ ap is_eq is))
      by Greater is rest = ap (cons_option (chosen e)) rest ∙ onto e.1 (ap is_gt is)

  -- the same, of objects one after another
  abbrev place_if : Option Entry → List Entry → List Entry
  place_if None ps = ps
  place_if (Some p) ps = placed entry_order p ps

  abbrev collect : List (Name × Object) → List Entry
  collect [] = []
  collect (o ∷ os) = place_if (chosen (folded o.0, o.1)) (collect os)

  one_more : (k : Name) (o : Object) (es : Database) → find name_order k es ≡ None → is_sorted name_order es ≡ true → gather (put name_order k o es) ≡ place_if (chosen (k, o)) (gather es)
  one_more k (ATable t) es new rising = put_passes k (ATable t) es refl new
  one_more k (AnIndex i) es new rising = put_passes k (AnIndex i) es refl new
  one_more k (AView v) es new rising = put_passes k (AView v) es refl new
  one_more k (ATrigger d) es new rising = by (sel d) refl
    where
      by : (b : Bool) → sel d ≡ b → gather (put name_order k (ATrigger d) es) ≡ place_if (cond b (Some (k, d)) None) (gather es)
      by true so = put_adds k d es so new rising
      by false so = put_passes k (ATrigger d) es (ap (λ b. cond b (some_entry k d) None) so) new

  gathers : (os : List (Name × Object)) → any_twice is_same_name (map name_of os) ≡ false → gather (made os) ≡ collect os
  gathers [] once = refl
  gathers (o ∷ os) once =
      let parts = neither (list_any (is_same_name o.0) (map name_of os)) (any_twice is_same_name (map name_of os)) once in
      one_more (folded o.0) o.1 (made os) (made_finds os o.0 ∙ none_named o.0 os parts.0) (in_order (made os) (made_named os).rising)
      ∙ ap (place_if (chosen (folded o.0, o.1))) (gathers os parts.1)

  -- ---- the listed objects

  module _ (rows_at : ℕ → List (ℤ × List Value)) where
    tables_pass : (ts : List Table) (os : List (Name × Object)) → collect (map (table_object rows_at) ts ++ os) ≡ collect os
    tables_pass [] os = refl
    tables_pass (t ∷ ts) os = tables_pass ts os

    indexes_of_pass : (t : Table) (is : List ListedIndex) (os : List (Name × Object)) → collect (map (λ (i : ListedIndex). (i.name, AnIndex (as_index t i))) is ++ os) ≡ collect os
    indexes_of_pass t [] os = refl
    indexes_of_pass t (i ∷ is) os = indexes_of_pass t is os

    indexes_pass : (ts : List Table) → collect (flat_map index_objects ts) ≡ []
    indexes_pass [] = refl
    indexes_pass (t ∷ ts) = indexes_of_pass t t.indexes (flat_map index_objects ts) ∙ indexes_pass ts

    abbrev pub entry_of : Trigger → Entry
    entry_of t = (folded t.definition.name, t.definition)

    of_triggers : (ts : List Trigger) (os : List (Name × Object)) → collect os ≡ [] → collect (map trigger_object ts ++ os) ≡ sorted entry_order (map entry_of (filter (λ t. sel t.definition) ts))
    of_triggers [] os h = h
    of_triggers (t ∷ ts) os h = by (sel t.definition) (of_triggers ts os h)
      where
        by : (b : Bool) → collect (map trigger_object ts ++ os) ≡ sorted entry_order (map entry_of (filter (λ t. sel t.definition) ts))
            → place_if (cond b (Some (folded t.definition.name, t.definition)) None) (collect (map trigger_object ts ++ os))
            ≡ sorted entry_order (map entry_of (cond b (t ∷ filter (λ t. sel t.definition) ts) (filter (λ t. sel t.definition) ts)))
        by true rest = ap (placed entry_order (entry_of t)) rest
        by false rest = rest

    views_pass : (vs : List View) (ts : List Trigger) (os : List (Name × Object)) → collect ((map view_object vs ++ map trigger_object ts) ++ os) ≡ collect (map trigger_object ts ++ os)
    views_pass [] ts os = refl
    views_pass (v ∷ vs) ts os = views_pass vs ts os

    pub listed_gathers : (l : Listed) (db : Database) → IsOfListed rows_at l db → gather db ≡ sorted entry_order (map entry_of (filter (λ t. sel t.definition) l.triggers))
    listed_gathers l db of =
        ap gather same
        ∙ gathers objects (ap (any_twice is_same_name) (names_are rows_at l) ∙ is_no (any_twice is_same_name (names_of l)) of.once)
        ∙ tables_pass l.tables (treeless_objects l ++ flat_map index_objects l.tables)
        ∙ views_pass l.views l.triggers (flat_map index_objects l.tables)
        ∙ of_triggers l.triggers (flat_map index_objects l.tables) (indexes_pass l.tables)
      where
        objects : List (Name × Object)
        objects = objects_of rows_at l

        same : db ≡ made objects
        same = one_database db (made objects) of.named (made_named objects) (λ other. of.lists other ∙ sym (made_finds objects other))
