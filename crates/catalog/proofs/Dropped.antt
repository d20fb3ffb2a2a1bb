-- A listed database without one of its objects, and without what goes with it.
use Rattle.std.proofs.Common.{◌≡◌, refl, sym, ap, subst, ◌∙◌, ℕ, ℤ, Bool, true, false, ◌||◌, List, [], ◌∷◌, ◌++◌, append_assoc, map, filter, not, Option, Some, None, cond}
use Rattle.std.proofs.lemmas.Bool.{false≢true}
use Rattle.std.proofs.lemmas.List.Elements.{filter-append}
use Rattle.std.proofs.lemmas.Map.Lookups.{exact_bytes}
use Rattle.std.proofs.lemmas.Map.Views.{tells_apart}
use Rattle.std.proofs.lemmas.Slice.Eq.{bytes_eq-Decides}
use Rattle.std.specs.FinMap.Entries.{below_all, find, is_sorted}
use Rattle.std.specs.List as list
use Rattle.std.specs.List.{AllByRecursion, list_any}
use Rattle.std.specs.Ordering.{eq_by_cmp, is_lt}
use Rattle.std.specs.Prelude.{flat_map, option_map}
use Rattle.std.specs.Str.{bytes_eq}
use Rattle.sqlval.specs.Lists.{any_twice}
use Rattle.sqlval.specs.Names.{folded, is_same_name}
use Rattle.sqlval.specs.declared.value.Value.{Value}
use Rattle.catalog.specs.Database.{Name, Database, Object, ATable, AnIndex, AView, ATrigger, name_order, object}
use Rattle.catalog.specs.Listed.{Listed, are_named_once, index_objects, is_on, is_table, named_among, names_of, objects_of, as_index, table_named, table_object, treeless_names, treeless_objects, trigger_object, view_object, without_table, without_triggers_on}
use Rattle.catalog.specs.Named.{IsNamed, IsOfListed, ListsOthers, goes_with, less_table, without}
use Rattle.catalog.specs.declared.tables.Index.{Index as ListedIndex}
use Rattle.catalog.specs.declared.tables.Table.{Table}
use Rattle.catalog.specs.declared.tables.Trigger.{Trigger}
use Rattle.catalog.specs.declared.tables.View.{View}
use Rattle.catalog.proofs.NamedDatabases.{AreFolded, folded_twice, in_order, not_below, rising}
use Rattle.catalog.proofs.OtherRows.{both_true, first_true, rest_true}

pub same : (a b : Name) → bytes_eq a b ≡ true → a ≡ b
same a b h = (bytes_eq-Decides a b).0 h

pub tells : (a b : Name) → a ≡ b → bytes_eq a b ≡ true
tells a b h = (bytes_eq-Decides a b).1 h

no_one : (b : Bool) → (b ≡ true → ⊥) → b ≡ false
no_one true h = absurd (h refl)
no_one false h = refl

pub other_name : (a b : Name) → is_same_name a b ≡ false → is_same_name b a ≡ false
other_name a b h = no_one (is_same_name b a) (λ k. false≢true (sym h ∙ tells (folded a) (folded b) (sym (same (folded b) (folded a) k))))

-- names that are one with a third are one
pub joined : (a b c : Name) → is_same_name a b ≡ true → is_same_name c b ≡ true → is_same_name a c ≡ true
joined a b c h k = tells (folded a) (folded c) (same (folded a) (folded b) h ∙ sym (same (folded c) (folded b) k))

-- ---- what passes a test is found once

abbrev pub kept : {A : Type 0} → (A → Bool) → Option A → Option A
kept p None = None
kept p (Some x) = cond (p x) (Some x) None

-- after the item that is found there is no other
abbrev pub OnlyOnce : {A : Type 0} → (A → Bool) → List A → Type 0
OnlyOnce t [] = Unit {0}
OnlyOnce t (x ∷ xs) = (t x ≡ true → list.find t xs ≡ None) × OnlyOnce t xs

none_left : {A : Type 0} (p t : A → Bool) (xs : List A) → list.find t xs ≡ None → list.find t (filter p xs) ≡ None
none_left p t [] h = refl
none_left p t (x ∷ xs) h = by_test (none_left p t xs) (t x) refl h (p x)
  where
    by_test : (list.find t xs ≡ None → list.find t (filter p xs) ≡ None) → (b : Bool) → t x ≡ b → cond b (Some x) (list.find t xs) ≡ None
        → (c : Bool) → list.find t (cond c (x ∷ filter p xs) (filter p xs)) ≡ None
    by_test rest true e h c = absurd cc
    by_test rest false e h true = ap (λ b. cond b (Some x) (list.find t (filter p xs))) e ∙ rest h
    by_test rest false e h false = rest h

pub found_kept : {A : Type 0} (p t : A → Bool) (xs : List A) → OnlyOnce t xs → list.find t (filter p xs) ≡ kept p (list.find t xs)
found_kept p t [] once = refl
found_kept p t (x ∷ xs) once = by_test (found_kept p t xs once.1) (t x) refl (p x) refl
  where
    by_test : list.find t (filter p xs) ≡ kept p (list.find t xs) → (b : Bool) → t x ≡ b → (c : Bool) → p x ≡ c
        → list.find t (cond c (x ∷ filter p xs) (filter p xs)) ≡ kept p (cond b (Some x) (list.find t xs))
    by_test rest true e true f = ap (λ b. cond b (Some x) (list.find t (filter p xs))) e ∙ sym (ap (λ c. cond c (Some x) None) f)
    by_test rest true e false f = none_left p t xs (once.0 e) ∙ sym (ap (λ c. cond c (Some x) None) f)
    by_test rest false e true f = ap (λ b. cond b (Some x) (list.find t (filter p xs))) e ∙ rest
    by_test rest false e false f = rest

-- ---- objects of a database

-- the object of a key in a list of objects, whole
abbrev pub entry_at : Name → Database → Option (Name × Object)
entry_at k db = list.find (λ e. eq_by_cmp name_order k e.0) db

pub found_entry : (k : Name) (db : Database) → find name_order k db ≡ option_map (λ e. e.1) (entry_at k db)
found_entry k [] = refl
found_entry k (e ∷ es) = by_test (found_entry k es) (eq_by_cmp name_order k e.0)
  where
    by_test : find name_order k es ≡ option_map (λ (e : Name × Object). e.1) (entry_at k es) → (b : Bool)
        → cond b (Some e.1) (find name_order k es) ≡ option_map (λ (e : Name × Object). e.1) (cond b (Some e) (entry_at k es))
    by_test rest true = refl
    by_test rest false = rest

no_entry : (k : Name) (db : Database) → find name_order k db ≡ None → entry_at k db ≡ None
no_entry k db h = by_found (entry_at k db) (sym (found_entry k db) ∙ h)
  where
    by_found : (found : Option (Name × Object)) → option_map (λ (e : Name × Object). e.1) found ≡ None → found ≡ None
    by_found None h = refl
    by_found (Some e) h = absurd cc

pub keyed_once : (k : Name) (db : Database) → is_sorted name_order db ≡ true → OnlyOnce (λ (e : Name × Object). eq_by_cmp name_order k e.0) db
keyed_once k [] h = tt
keyed_once k (e ∷ es) h = (
  λ is. no_entry k es (ap (λ n. find name_order n es) (tells_apart exact_bytes k e.0 is) ∙ not_below es e.0 (first_true (below_all name_order e.0 es) (is_sorted name_order es) h)),
  keyed_once k es (rest_true (below_all name_order e.0 es) (is_sorted name_order es) h),
)

-- ---- listed objects

abbrev pub has_name : Name → Name × Object → Bool
has_name q o = is_same_name o.0 q

pub once_named : (q : Name) (os : List (Name × Object)) → any_twice is_same_name (map (λ o. o.0) os) ≡ false → OnlyOnce (has_name q) os
once_named q [] h = tt
once_named q (o ∷ os) h = (
  λ is. no_other os (neither (list_any (is_same_name o.0) (map (λ o. o.0) os)) (any_twice is_same_name (map (λ o. o.0) os)) h).0 is,
  once_named q os (neither (list_any (is_same_name o.0) (map (λ o. o.0) os)) (any_twice is_same_name (map (λ o. o.0) os)) h).1,
)
  where
    neither : (a b : Bool) → (a || b) ≡ false → (a ≡ false) × (b ≡ false)
    neither true b h = absurd (false≢true (sym h))
    neither false b h = (refl, h)

    by_test : (o y : Name × Object) (ys : List (Name × Object)) → (list_any (is_same_name o.0) (map (λ o. o.0) ys) ≡ false → list.find (has_name q) ys ≡ None) → is_same_name o.0 q ≡ true
        → (b : Bool) → has_name q y ≡ b → (is_same_name o.0 y.0 ≡ false) × (list_any (is_same_name o.0) (map (λ o. o.0) ys) ≡ false) → cond b (Some y) (list.find (has_name q) ys) ≡ None
    by_test o y ys rest is true e h = absurd (false≢true (sym h.0 ∙ joined o.0 q y.0 is e))
    by_test o y ys rest is false e h = rest h.1

    no_other : (ys : List (Name × Object)) → list_any (is_same_name o.0) (map (λ o. o.0) ys) ≡ false → is_same_name o.0 q ≡ true → list.find (has_name q) ys ≡ None
    no_other [] h is = refl
    no_other (y ∷ ys) h is = by_test o y ys (λ k. no_other ys k is) is (has_name q y) refl (neither (is_same_name o.0 y.0) (list_any (is_same_name o.0) (map (λ o. o.0) ys)) h)

-- ---- what stays

below_still : (p : Name × Object → Bool) (x : Name) (es : Database) → below_all name_order x es ≡ true → below_all name_order x (filter p es) ≡ true
below_still p x [] h = refl
below_still p x (e ∷ es) h = by_test (p e) (below_still p x es (rest_true _ (below_all name_order x es) h))
  where
    by_test : (b : Bool) → below_all name_order x (filter p es) ≡ true → below_all name_order x (cond b (e ∷ filter p es) (filter p es)) ≡ true
    by_test true rest = both_true (is_lt (name_order x e.0)) (below_all name_order x (filter p es)) (first_true _ (below_all name_order x es) h) rest
    by_test false rest = rest

pub sorted_still : (p : Name × Object → Bool) (es : Database) → is_sorted name_order es ≡ true → is_sorted name_order (filter p es) ≡ true
sorted_still p [] h = refl
sorted_still p (e ∷ es) h = by_test (p e) (sorted_still p es (rest_true _ (is_sorted name_order es) h))
  where
    by_test : (b : Bool) → is_sorted name_order (filter p es) ≡ true → is_sorted name_order (cond b (e ∷ filter p es) (filter p es)) ≡ true
    by_test true rest = both_true (below_all name_order e.0 (filter p es)) (is_sorted name_order (filter p es)) (below_still p e.0 es (first_true (below_all name_order e.0 es) (is_sorted name_order es) h)) rest
    by_test false rest = rest

pub folded_still : (p : Name × Object → Bool) (es : Database) → AreFolded es → AreFolded (filter p es)
folded_still p [] h = tt
folded_still p (e ∷ es) h = by_test (p e) (folded_still p es h.1)
  where
    by_test : (b : Bool) → AreFolded (filter p es) → AreFolded (cond b (e ∷ filter p es) (filter p es))
    by_test true rest = (h.0, rest)
    by_test false rest = rest

-- ---- names

-- the names of listed objects are those of the tables and of their indexes
pub index_names : (tables : List Table) → map (λ (o : Name × Object). o.0) (flat_map index_objects tables) ≡ flat_map (λ (t : Table). map (λ (i : ListedIndex). i.name) t.indexes) tables
index_names [] = refl
index_names (t ∷ ts) = of_indexes t.indexes (flat_map index_objects ts) (flat_map (λ (t : Table). map (λ (i : ListedIndex). i.name) t.indexes) ts) (index_names ts)
  where
    of_indexes : (is : List ListedIndex) (os : List (Name × Object)) (names : List Name) → map (λ (o : Name × Object). o.0) os ≡ names
        → map (λ (o : Name × Object). o.0) (map (λ (i : ListedIndex). (i.name, AnIndex (as_index t i))) is ++ os) ≡ map (λ (i : ListedIndex). i.name) is ++ names
    of_indexes [] os names e = e
    of_indexes (i ∷ is) os names e = ap (λ ns. i.name ∷ ns) (of_indexes is os names e)

object_names : (rows_at : ℕ → List (ℤ × List Value)) (tables : List Table) (os : List (Name × Object)) (names : List Name) → map (λ (o : Name × Object). o.0) os ≡ names
    → map (λ (o : Name × Object). o.0) (map (table_object rows_at) tables ++ os) ≡ map (λ (t : Table). t.name) tables ++ names
object_names rows_at [] os names e = e
object_names rows_at (t ∷ ts) os names e = ap (λ ns. t.name ∷ ns) (object_names rows_at ts os names e)

pub view_names : (views : List View) (os : List (Name × Object)) (names : List Name) → map (λ (o : Name × Object). o.0) os ≡ names
    → map (λ (o : Name × Object). o.0) (map view_object views ++ os) ≡ map (λ (v : View). v.definition.name) views ++ names
view_names [] os names e = e
view_names (v ∷ vs) os names e = ap (λ ns. v.definition.name ∷ ns) (view_names vs os names e)

pub trigger_names : (triggers : List Trigger) (os : List (Name × Object)) (names : List Name) → map (λ (o : Name × Object). o.0) os ≡ names
    → map (λ (o : Name × Object). o.0) (map trigger_object triggers ++ os) ≡ map (λ (t : Trigger). t.definition.name) triggers ++ names
trigger_names [] os names e = e
trigger_names (t ∷ ts) os names e = ap (λ ns. t.definition.name ∷ ns) (trigger_names ts os names e)

-- of views and triggers, and of what stands behind them
pub treeless_then : (l : Listed) (os : List (Name × Object)) (names : List Name) → map (λ (o : Name × Object). o.0) os ≡ names
    → map (λ (o : Name × Object). o.0) (treeless_objects l ++ os) ≡ treeless_names l ++ names
treeless_then l os names e =
    ap (map (λ (o : Name × Object). o.0)) (append_assoc (map view_object l.views) (map trigger_object l.triggers) os)
    ∙ (view_names l.views (map trigger_object l.triggers ++ os) _ (trigger_names l.triggers os names e)
    ∙ sym (append_assoc (map (λ (v : View). v.definition.name) l.views) (map (λ (t : Trigger). t.definition.name) l.triggers) names))

pub names_are : (rows_at : ℕ → List (ℤ × List Value)) (l : Listed) → map (λ (o : Name × Object). o.0) (objects_of rows_at l) ≡ names_of l
names_are rows_at l = object_names rows_at l.tables (treeless_objects l ++ flat_map index_objects l.tables) _ (treeless_then l (flat_map index_objects l.tables) _ (index_names l.tables))

-- ---- no name among others

pub neither : (a b : Bool) → (a || b) ≡ false → (a ≡ false) × (b ≡ false)
neither true b h = absurd (false≢true (sym h))
neither false b h = (refl, h)

pub none_after : (same : Name → Bool) (xs ys : List Name) → list_any same (xs ++ ys) ≡ false → list_any same ys ≡ false
none_after same [] ys h = h
none_after same (x ∷ xs) ys h = none_after same xs ys (neither (same x) (list_any same (xs ++ ys)) h).1

pub none_first : (same : Name → Bool) (xs ys : List Name) → list_any same (xs ++ ys) ≡ false → list_any same xs ≡ false
none_first same [] ys h = refl
none_first same (x ∷ xs) ys h = let both = neither (same x) (list_any same (xs ++ ys)) h in ap (λ b. b || list_any same xs) both.0 ∙ none_first same xs ys both.1

-- ---- those that go

abbrev pub stays : Name → Name × Object → Bool
stays name o = not (goes_with name o)

-- the test of a name alone, in either case of its letters
pub turned : (a b : Name) → is_same_name a b ≡ is_same_name b a
turned a b = by_test (is_same_name a b) refl
  where
    by_test : (c : Bool) → is_same_name a b ≡ c → c ≡ is_same_name b a
    by_test true e = sym (tells (folded b) (folded a) (sym (same (folded a) (folded b) e)))
    by_test false e = sym (other_name a b e)

tables_left : (rows_at : ℕ → List (ℤ × List Value)) (name : Name) (tables : List Table) → filter (stays name) (map (table_object rows_at) tables) ≡ map (table_object rows_at) (without_table name tables)
tables_left rows_at name [] = refl
tables_left rows_at name (t ∷ ts) = by_test (tables_left rows_at name ts) (is_same_name name t.name) (is_table name t) (turned name t.name)
  where
    by_test : filter (stays name) (map (table_object rows_at) ts) ≡ map (table_object rows_at) (without_table name ts) → (b c : Bool) → b ≡ c
        → cond (not b) (table_object rows_at t ∷ filter (stays name) (map (table_object rows_at) ts)) (filter (stays name) (map (table_object rows_at) ts))
        ≡ map (table_object rows_at) (cond (not c) (t ∷ without_table name ts) (without_table name ts))
    by_test rest true c e = rest ∙ ap (λ c. map (table_object rows_at) (cond (not c) (t ∷ without_table name ts) (without_table name ts))) e
    by_test rest false c e = ap (λ os. table_object rows_at t ∷ os) rest ∙ ap (λ c. map (table_object rows_at) (cond (not c) (t ∷ without_table name ts) (without_table name ts))) e

-- none of these indexes has the name
abbrev NoneNamed : Name → List ListedIndex → Type 0
NoneNamed name is = AllByRecursion (λ i. is_same_name name i.name ≡ false) is

abbrev index_object : Table → ListedIndex → Name × Object
index_object t i = (i.name, AnIndex (as_index t i))

either_way : (a b : Bool) → b ≡ true → (a || b) ≡ true
either_way true b h = refl
either_way false b h = h

all_go : (name : Name) (t : Table) (is : List ListedIndex) → is_table name t ≡ true → filter (stays name) (map (index_object t) is) ≡ []
all_go name t [] named = refl
all_go name t (i ∷ is) named =
    ap (λ b. cond (not b) (index_object t i ∷ filter (stays name) (map (index_object t) is)) (filter (stays name) (map (index_object t) is)))
    (either_way (is_same_name name i.name) (is_same_name name (folded t.name))
    (tells (folded name) (folded (folded t.name)) (sym (folded_twice t.name ∙ same (folded t.name) (folded name) named))))
    ∙ all_go name t is named

all_stay : (name : Name) (t : Table) (is : List ListedIndex) → is_table name t ≡ false → NoneNamed name is → filter (stays name) (map (index_object t) is) ≡ map (index_object t) is
all_stay name t [] named none = refl
all_stay name t (i ∷ is) named none =
    ap (λ b. cond (not (b || is_same_name name (folded t.name))) (index_object t i ∷ filter (stays name) (map (index_object t) is)) (filter (stays name) (map (index_object t) is))) none.0
    ∙ (ap (λ b. cond (not b) (index_object t i ∷ filter (stays name) (map (index_object t) is)) (filter (stays name) (map (index_object t) is)))
    (no_one (is_same_name name (folded t.name)) (λ h. false≢true (sym named ∙ tells (folded t.name) (folded name) (sym (same (folded name) (folded (folded t.name)) h ∙ folded_twice t.name)))))
    ∙ ap (λ os. index_object t i ∷ os) (all_stay name t is named none.1))

pub indexes_left : (name : Name) (tables : List Table) → AllByRecursion (λ (t : Table). NoneNamed name t.indexes) tables
    → filter (stays name) (flat_map index_objects tables) ≡ flat_map index_objects (without_table name tables)
indexes_left name [] none = refl
indexes_left name (t ∷ ts) none =
    filter-append (stays name) (index_objects t) (flat_map index_objects ts)
    ∙ (ap (λ os. filter (stays name) (index_objects t) ++ os) (indexes_left name ts none.1) ∙ by_test (is_table name t) refl)
  where
    by_test : (b : Bool) → is_table name t ≡ b → filter (stays name) (index_objects t) ++ flat_map index_objects (without_table name ts)
        ≡ flat_map index_objects (cond (not b) (t ∷ without_table name ts) (without_table name ts))
    by_test true e = ap (λ os. os ++ flat_map index_objects (without_table name ts)) (all_go name t t.indexes e)
    by_test false e = ap (λ os. os ++ flat_map index_objects (without_table name ts)) (all_stay name t t.indexes e none.0)

-- none of these goes
pub none_go : (name : Name) (os : List (Name × Object)) → list_any (goes_with name) os ≡ false → filter (stays name) os ≡ os
none_go name [] none = refl
none_go name (o ∷ os) none =
    let both = neither (goes_with name o) (list_any (goes_with name) os) none in
    ap (λ b. cond (not b) (o ∷ filter (stays name) os) (filter (stays name) os)) both.0 ∙ ap (λ xs. o ∷ xs) (none_go name os both.1)

-- no view has the name
pub views_stay : (name : Name) (views : List View) → list_any (is_same_name name) (map (λ (v : View). v.definition.name) views) ≡ false → filter (stays name) (map view_object views) ≡ map view_object views
views_stay name [] none = refl
views_stay name (v ∷ vs) none =
    let parts = neither (is_same_name name v.definition.name) (list_any (is_same_name name) (map (λ (v : View). v.definition.name) vs)) none in
    ap (λ b. cond (not b) (view_object v ∷ filter (stays name) (map view_object vs)) (filter (stays name) (map view_object vs))) parts.0
    ∙ ap (λ os. view_object v ∷ os) (views_stay name vs parts.1)

-- no trigger has the name: those of its table or view go
pub triggers_left : (name : Name) (triggers : List Trigger) → list_any (is_same_name name) (map (λ (t : Trigger). t.definition.name) triggers) ≡ false
    → filter (stays name) (map trigger_object triggers) ≡ map trigger_object (without_triggers_on name triggers)
triggers_left name [] none = refl
triggers_left name (t ∷ ts) none =
    let parts = neither (is_same_name name t.definition.name) (list_any (is_same_name name) (map (λ (t : Trigger). t.definition.name) ts)) none in
    ap (λ b. cond (not (b || is_on name t)) (trigger_object t ∷ filter (stays name) (map trigger_object ts)) (filter (stays name) (map trigger_object ts))) parts.0
    ∙ by_test (triggers_left name ts parts.1) (is_on name t)
  where
    by_test : filter (stays name) (map trigger_object ts) ≡ map trigger_object (without_triggers_on name ts) → (b : Bool)
        → cond (not b) (trigger_object t ∷ filter (stays name) (map trigger_object ts)) (filter (stays name) (map trigger_object ts))
        ≡ map trigger_object (cond (not b) (t ∷ without_triggers_on name ts) (without_triggers_on name ts))
    by_test rest true = rest
    by_test rest false = ap (λ os. trigger_object t ∷ os) rest

-- neither a view nor a trigger has the name
pub treeless_left : (name : Name) (l : Listed) → list_any (is_same_name name) (treeless_names l) ≡ false
    → filter (stays name) (treeless_objects l) ≡ map view_object l.views ++ map trigger_object (without_triggers_on name l.triggers)
treeless_left name l none =
    let views : List Name = map (λ (v : View). v.definition.name) l.views in
    let triggers : List Name = map (λ (t : Trigger). t.definition.name) l.triggers in
    filter-append (stays name) (map view_object l.views) (map trigger_object l.triggers)
    ∙ (ap (λ os. os ++ filter (stays name) (map trigger_object l.triggers)) (views_stay name l.views (none_first (is_same_name name) views triggers none))
    ∙ ap (λ os. map view_object l.views ++ os) (triggers_left name l.triggers (none_after (is_same_name name) views triggers none)))

objects_left : (rows_at : ℕ → List (ℤ × List Value)) (name : Name) (l : Listed) → AllByRecursion (λ (t : Table). NoneNamed name t.indexes) l.tables
    → list_any (is_same_name name) (treeless_names l) ≡ false → filter (stays name) (objects_of rows_at l) ≡ objects_of rows_at (less_table name l)
objects_left rows_at name l none no_treeless =
    let front : List (Name × Object) = map (table_object rows_at) l.tables in
    let back : List (Name × Object) = flat_map index_objects l.tables in
    filter-append (stays name) front (treeless_objects l ++ back)
    ∙ (ap (λ os. os ++ filter (stays name) (treeless_objects l ++ back)) (tables_left rows_at name l.tables)
    ∙ (ap (λ os. map (table_object rows_at) (without_table name l.tables) ++ os) (filter-append (stays name) (treeless_objects l) back)
    ∙ (ap (λ os. map (table_object rows_at) (without_table name l.tables) ++ (os ++ filter (stays name) back)) (treeless_left name l no_treeless)
    ∙ ap (λ os. map (table_object rows_at) (without_table name l.tables) ++ ((map view_object l.views ++ map trigger_object (without_triggers_on name l.triggers)) ++ os)) (indexes_left name l.tables none))))

-- ---- names that stand once

-- a table's name is none of those behind the tables
own_name : (name : Name) (tables : List Table) (others : List Name) (t : Table) → table_named name tables ≡ Some t → any_twice is_same_name (map (λ (t : Table). t.name) tables ++ others) ≡ false
    → (is_same_name t.name name ≡ true) × (list_any (is_same_name t.name) others ≡ false)
own_name name [] others t found h = absurd cc
own_name name (u ∷ us) others t found h =
    let both = neither (list_any (is_same_name u.name) (map (λ (t : Table). t.name) us ++ others)) (any_twice is_same_name (map (λ (t : Table). t.name) us ++ others)) h in
    by_test both.0 (λ later. own_name name us others t later both.1) (is_table name u) refl found
  where
    by_test : list_any (is_same_name u.name) (map (λ (t : Table). t.name) us ++ others) ≡ false → (table_named name us ≡ Some t → (is_same_name t.name name ≡ true) × (list_any (is_same_name t.name) others ≡ false))
        → (b : Bool) → is_table name u ≡ b → cond b (Some u) (table_named name us) ≡ Some t → (is_same_name t.name name ≡ true) × (list_any (is_same_name t.name) others ≡ false)
    by_test none later true e found =
        let is : u ≡ t = cc in
        subst (λ (t : Table). (is_same_name t.name name ≡ true) × (list_any (is_same_name t.name) others ≡ false)) is
        (e, none_after (is_same_name u.name) (map (λ (t : Table). t.name) us) others none)
    by_test none later false e found = later found

none_of : (a name : Name) (is : List ListedIndex) → is_same_name a name ≡ true → list_any (is_same_name a) (map (λ (i : ListedIndex). i.name) is) ≡ false → NoneNamed name is
none_of a name [] same_as h = tt
none_of a name (i ∷ is) same_as h =
    let both = neither (is_same_name a i.name) (list_any (is_same_name a) (map (λ (i : ListedIndex). i.name) is)) h in (
      subst (λ (k : Name). bytes_eq k (folded i.name) ≡ false) (same (folded a) (folded name) same_as) both.0,
      none_of a name is same_as both.1,
    )

pub none_among : (a name : Name) (tables : List Table) → is_same_name a name ≡ true → list_any (is_same_name a) (flat_map (λ (t : Table). map (λ (i : ListedIndex). i.name) t.indexes) tables) ≡ false
    → AllByRecursion (λ (t : Table). NoneNamed name t.indexes) tables
none_among a name [] same_as h = tt
none_among a name (t ∷ ts) same_as h =
    let names : List Name = flat_map (λ (t : Table). map (λ (i : ListedIndex). i.name) t.indexes) ts in (
      none_of a name t.indexes same_as (none_first (is_same_name a) (map (λ (i : ListedIndex). i.name) t.indexes) names h),
      none_among a name ts same_as (none_after (is_same_name a) (map (λ (i : ListedIndex). i.name) t.indexes) names h),
    )

pub is_no : (b : Bool) → not b ≡ true → b ≡ false
is_no true h = absurd (false≢true h)
is_no false h = refl

none_for : (a name : Name) (names : List Name) → is_same_name a name ≡ true → list_any (is_same_name a) names ≡ false → list_any (is_same_name name) names ≡ false
none_for a name names same_as h = subst (λ (k : Name). list_any (λ (n : Name). bytes_eq k (folded n)) names ≡ false) (same (folded a) (folded name) same_as) h

-- no index, no view and no trigger has the name of a table
pub no_index_named : (name : Name) (l : Listed) (t : Table) → are_named_once l ≡ true → table_named name l.tables ≡ Some t → AllByRecursion (λ (t : Table). NoneNamed name t.indexes) l.tables
no_index_named name l t once found =
    let own = own_name name l.tables _ t found (is_no (any_twice is_same_name (names_of l)) once) in
    none_among t.name name l.tables own.0 (none_after (is_same_name t.name) (treeless_names l) _ own.1)

pub no_treeless_named : (name : Name) (l : Listed) (t : Table) → are_named_once l ≡ true → table_named name l.tables ≡ Some t → list_any (is_same_name name) (treeless_names l) ≡ false
no_treeless_named name l t once found =
    let own = own_name name l.tables _ t found (is_no (any_twice is_same_name (names_of l)) once) in
    none_for t.name name (treeless_names l) own.0 (none_first (is_same_name t.name) (treeless_names l) _ own.1)

none_still : (p : Name × Object → Bool) (same : Name → Bool) (os : List (Name × Object)) → list_any same (map (λ o. o.0) os) ≡ false → list_any same (map (λ o. o.0) (filter p os)) ≡ false
none_still p same [] h = refl
none_still p same (o ∷ os) h =
    let both = neither (same o.0) (list_any same (map (λ o. o.0) os)) h in by_test both.0 (none_still p same os both.1) (p o)
  where
    by_test : same o.0 ≡ false → list_any same (map (λ o. o.0) (filter p os)) ≡ false → (b : Bool) → list_any same (map (λ o. o.0) (cond b (o ∷ filter p os) (filter p os))) ≡ false
    by_test e rest true = ap (λ b. b || list_any same (map (λ o. o.0) (filter p os))) e ∙ rest
    by_test e rest false = rest

pub once_still : (p : Name × Object → Bool) (os : List (Name × Object)) → any_twice is_same_name (map (λ o. o.0) os) ≡ false → any_twice is_same_name (map (λ o. o.0) (filter p os)) ≡ false
once_still p [] h = refl
once_still p (o ∷ os) h =
    let both = neither (list_any (is_same_name o.0) (map (λ o. o.0) os)) (any_twice is_same_name (map (λ o. o.0) os)) h in
    by_test (none_still p (is_same_name o.0) os both.0) (once_still p os both.1) (p o)
  where
    by_test : list_any (is_same_name o.0) (map (λ o. o.0) (filter p os)) ≡ false → any_twice is_same_name (map (λ o. o.0) (filter p os)) ≡ false
        → (b : Bool) → any_twice is_same_name (map (λ o. o.0) (cond b (o ∷ filter p os) (filter p os))) ≡ false
    by_test e rest true = ap (λ b. b || any_twice is_same_name (map (λ o. o.0) (filter p os))) e ∙ rest
    by_test e rest false = rest

-- ---- what is found

pub found_holds : {A : Type 0} (t : A → Bool) (xs : List A) (x : A) → list.find t xs ≡ Some x → t x ≡ true
found_holds t [] x h = absurd cc
found_holds t (y ∷ ys) x h = by_test (found_holds t ys x) (t y) refl h
  where
    by_test : (list.find t ys ≡ Some x → t x ≡ true) → (b : Bool) → t y ≡ b → cond b (Some y) (list.find t ys) ≡ Some x → t x ≡ true
    by_test rest true e h = let is : y ≡ x = cc in subst (λ z. t z ≡ true) is e
    by_test rest false e h = rest h

same_fate : (name n m : Name) (o : Object) → folded n ≡ folded m → stays name (n, o) ≡ stays name (m, o)
same_fate name n m (ATable t) e = ap (λ k. not (bytes_eq (folded name) k)) e
same_fate name n m (AnIndex i) e = ap (λ k. not (bytes_eq (folded name) k || is_same_name name i.table)) e
same_fate name n m (AView v) e = ap (λ k. not (bytes_eq (folded name) k)) e
same_fate name n m (ATrigger d) e = ap (λ k. not (bytes_eq (folded name) k || is_same_name name d.target)) e

both_kept : (name : Name) (found listed : Option (Name × Object)) → option_map (λ o. o.1) found ≡ option_map (λ o. o.1) listed
    → ((o x : Name × Object) → found ≡ Some o → listed ≡ Some x → folded o.0 ≡ folded x.0)
    → option_map (λ o. o.1) (kept (stays name) found) ≡ option_map (λ o. o.1) (kept (stays name) listed)
both_kept name None None e names = refl
both_kept name None (Some x) e names = absurd cc
both_kept name (Some o) None e names = absurd cc
both_kept name (Some o) (Some x) e names =
    let is : o.1 ≡ x.1 = cc in
    let fate : stays name o ≡ stays name x = same_fate name o.0 x.0 o.1 (names o x refl refl) ∙ ap (λ (y : Object). stays name (x.0, y)) is in
    by_test (stays name x) fate is
  where
    by_test : (b : Bool) → stays name o ≡ b → o.1 ≡ x.1 → option_map (λ (y : Name × Object). y.1) (cond (stays name o) (Some o) None) ≡ option_map (λ (y : Name × Object). y.1) (cond b (Some x) None)
    by_test true e is = ap (λ b. option_map (λ (y : Name × Object). y.1) (cond b (Some o) None)) e ∙ ap (λ y. Some y) is
    by_test false e is = ap (λ b. option_map (λ (y : Name × Object). y.1) (cond b (Some o) None)) e

-- ---- the law

-- the objects of a database, each under its name
pub record IsOf (objects : List (Name × Object)) (db : Database) : Type 0 where
  pub finds : (q : Name) → object db q ≡ named_among q objects
  pub named : IsNamed db
  pub once : any_twice is_same_name (map (λ o. o.0) objects) ≡ false

pub as_objects : (rows_at : ℕ → List (ℤ × List Value)) (l : Listed) (db : Database) → IsOfListed rows_at l db → IsOf (objects_of rows_at l) db
as_objects rows_at l db is = record {
  finds = is.lists;
  named = is.named;
  once = ap (any_twice is_same_name) (names_are rows_at l) ∙ is_no (any_twice is_same_name (names_of l)) is.once;
}

pub as_listed : (rows_at : ℕ → List (ℤ × List Value)) (l : Listed) (db : Database) (objects : List (Name × Object)) → objects ≡ objects_of rows_at l → IsOf objects db → IsOfListed rows_at l db
as_listed rows_at l db objects e is = record {
  lists = λ q. is.finds q ∙ ap (named_among q) e;
  named = is.named;
  once = ap not (ap (any_twice is_same_name) (sym (names_are rows_at l) ∙ ap (map (λ (o : Name × Object). o.0)) (sym e)) ∙ is.once);
}

-- without what goes with a name
pub less : (name : Name) (objects : List (Name × Object)) (db : Database) → IsOf objects db → IsOf (filter (stays name) objects) (without name db)
less name objects db is = record {
  finds = λ q.
      let entry = entry_at (folded q) db in
      let listed = list.find (has_name q) objects in
      found_entry (folded q) (without name db)
      ∙ (ap (option_map (λ (o : Name × Object). o.1)) (found_kept (stays name) (λ (e : Name × Object). eq_by_cmp name_order (folded q) e.0) db (keyed_once (folded q) db sorted))
      ∙ (both_kept name entry listed (sym (found_entry (folded q) db) ∙ is.finds q)
      (λ o x at there. (ap folded (sym (tells_apart exact_bytes (folded q) o.0 (found_holds (λ (e : Name × Object). eq_by_cmp name_order (folded q) e.0) db o at)))
      ∙ (folded_twice q ∙ sym (same (folded x.0) (folded q) (found_holds (has_name q) objects x there)))))
      ∙ ap (option_map (λ (o : Name × Object). o.1)) (sym (found_kept (stays name) (has_name q) objects (once_named q objects is.once)))));
  named = record {
    rising = rising (without name db) (sorted_still (stays name) db sorted);
    each_folded = folded_still (stays name) db is.named.each_folded;
  };
  once = once_still (stays name) objects is.once;
}
  where
    sorted : is_sorted name_order db ≡ true
    sorted = in_order db is.named.rising

pub lists_others : ListsOthers
lists_others rows_at l db name t is found =
    as_listed rows_at (less_table name l) (without name db) (filter (stays name) (objects_of rows_at l))
    (objects_left rows_at name l (no_index_named name l t is.once found) (no_treeless_named name l t is.once found))
    (less name (objects_of rows_at l) db (as_objects rows_at l db is))
