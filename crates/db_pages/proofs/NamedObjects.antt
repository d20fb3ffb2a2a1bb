-- Objects of different names: each is found under its own, in whatever order they stand, and their sorted names are those of their database.
use Rattle.std.proofs.Common.{◌≡◌, ◌∙◌, refl, sym, ap, subst, ℕ, ℤ, Bool, true, false, ◌||◌, cond, List, [], ◌∷◌, ◌++◌, map, Some, None}
use Rattle.std.specs.Prelude.{flat_map, if◌then◌else◌, not, option_map}
use Rattle.std.proofs.lemmas.Bool.{false≢true}
use Rattle.std.proofs.lemmas.Cmp.{nat_list_cmp_total}
use Rattle.std.proofs.lemmas.Map.Lookups.{exact_bytes}
use Rattle.std.proofs.lemmas.Map.Text.{is_eq-slice_cmp}
use Rattle.std.proofs.lemmas.Map.Views.{tells_apart}
use Rattle.std.specs.Cmp.{eq_by_cmp_equiv, tied_itself}
use Rattle.std.specs.FinMap.Entries.{by_order, find-put, put}
use Rattle.std.specs.FinMap.Entries as entries
use Rattle.std.specs.List.{AllByRecursion, find, list_any}
use Rattle.std.specs.Ordering.{eq_by_cmp, is_eq, is_gt}
use Rattle.std.specs.Str.{bytes_eq}
use Rattle.std.specs.declared.cmp.Ordering.{Ordering}
use Rattle.std.specs.declared.cmp.Ordering.TheVariants.{Less, Equal, Greater}
use Rattle.sqlval.specs.Lists.{any_twice, placed, sorted}
use Rattle.sqlval.specs.Names.{folded, is_same_name}
use Rattle.sqlval.specs.declared.value.Value.{Value}
use Rattle.catalog.specs.Database.{AnIndex, Database, Name, Object, name_order, object, with_object}
use Rattle.catalog.specs.Listed.{Listed, are_named_once, index_objects, named_among, names_of, objects_of, as_index, table_object, treeless_names, treeless_objects, trigger_object, view_object}
use Rattle.catalog.specs.Named.{IsNamed}
use Rattle.catalog.specs.declared.tables.Index.{Index as ListedIndex}
use Rattle.catalog.specs.declared.tables.Table.{Table}
use Rattle.catalog.specs.declared.tables.Trigger.{Trigger}
use Rattle.catalog.specs.declared.tables.View.{View}
use Rattle.catalog.proofs.NamedDatabases.{keeps_named, one_database}
use Rattle.db_pages.specs.Reordering.{AreReordered}
use Rattle.db_pages.proofs.Reordering.{reordered_any, reordered_map}

-- ---- names

abbrev pub own_names : List (Name × Object) → List Name
own_names os = map (λ o. o.0) os

-- no two have one name
abbrev pub HaveOwnNames : List (Name × Object) → Type 0
HaveOwnNames os = any_twice is_same_name (own_names os) ≡ false

pub same_named : (a b : Name) → folded a ≡ folded b → is_same_name a b ≡ true
same_named a b same = subst (λ n. bytes_eq (folded a) n ≡ true) same (sym (is_eq-slice_cmp (folded a) (folded a)) ∙ ap is_eq (tied_itself nat_list_cmp_total (folded a)))

pub named_same : (a b : Name) → is_same_name a b ≡ true → folded a ≡ folded b
named_same a b same = tells_apart exact_bytes (folded a) (folded b) (is_eq-slice_cmp (folded a) (folded b) ∙ same)

-- neither of two
pub neither : (a b : Bool) → (a || b) ≡ false → (a ≡ false) × (b ≡ false)
neither true b h = absurd (false≢true (sym h))
neither false b h = (refl, h)

pub one_among : (name : Name) (o : Name × Object) (os : List (Name × Object)) → named_among name (o ∷ os) ≡ cond (is_same_name o.0 name) (Some o.1) (named_among name os)
one_among name o os = by_test (is_same_name o.0 name)
  where
    by_test : (b : Bool) → option_map (λ (x : Name × Object). x.1) (cond b (Some o) (find (λ (x : Name × Object). is_same_name x.0 name) os)) ≡ cond b (Some o.1) (named_among name os)
    by_test true = refl
    by_test false = refl

-- ---- in another order

-- an object behind others of other names is found as if it stood in front of them
found_behind : (name : Name) (before after : List (Name × Object)) (o : Name × Object) → list_any (is_same_name o.0) (own_names before) ≡ false
    → named_among name (before ++ o ∷ after) ≡ cond (is_same_name o.0 name) (Some o.1) (named_among name (before ++ after))
found_behind name [] after o other = one_among name o after
found_behind name (p ∷ before) after o other =
    let apart = neither (is_same_name o.0 p.0) (list_any (is_same_name o.0) (own_names before)) other in
    one_among name p (before ++ o ∷ after)
    ∙ ap (cond (is_same_name p.0 name) (Some p.1)) (found_behind name before after o apart.1)
    ∙ by_tests apart.0 (is_same_name p.0 name) (is_same_name o.0 name) refl refl
    ∙ ap (cond (is_same_name o.0 name) (Some o.1)) (sym (one_among name p (before ++ after)))
  where
    by_tests : is_same_name o.0 p.0 ≡ false → (b c : Bool) → is_same_name p.0 name ≡ b → is_same_name o.0 name ≡ c
        → cond b (Some p.1) (cond c (Some o.1) (named_among name (before ++ after))) ≡ cond c (Some o.1) (cond b (Some p.1) (named_among name (before ++ after)))
    by_tests other true true h k = absurd (false≢true (sym other ∙ same_named o.0 p.0 (named_same o.0 name k ∙ sym (named_same p.0 name h))))
    by_tests other true false h k = refl
    by_tests other false c h k = refl

none_before : (p : Name → Bool) (xs ys : List (Name × Object)) → list_any p (own_names (xs ++ ys)) ≡ false → list_any p (own_names xs) ≡ false
none_before p [] ys h = refl
none_before p (x ∷ xs) ys h =
    let none = neither (p x.0) (list_any p (own_names (xs ++ ys))) h in
    ap (λ b. b || list_any p (own_names xs)) none.0 ∙ none_before p xs ys none.1

-- a name finds the same among them in another order
pub named_reordered : (name : Name) (xs ys : List (Name × Object)) → HaveOwnNames xs → AreReordered xs ys → named_among name xs ≡ named_among name ys
named_reordered name [] ys own h = ap (named_among name) (sym h)
named_reordered name (x ∷ xs) ys own (c, d, is, rest) =
    let apart = neither (list_any (is_same_name x.0) (own_names xs)) (any_twice is_same_name (own_names xs)) own in
    let there = sym (reordered_any (is_same_name x.0) (own_names xs) (own_names (c ++ d)) (reordered_map (λ (o : Name × Object). o.0) xs (c ++ d) rest)) ∙ apart.0 in
    one_among name x xs
    ∙ ap (cond (is_same_name x.0 name) (Some x.1)) (named_reordered name xs (c ++ d) apart.1 rest)
    ∙ sym (found_behind name c d x (none_before (is_same_name x.0) c d there))
    ∙ ap (named_among name) (sym is)

-- ---- each is found

no_other : (q : Name) (o : Name × Object) (os : List (Name × Object)) → list_any (is_same_name q) (own_names (o ∷ os)) ≡ false → is_same_name o.0 q ≡ false
no_other q o os none = by_test (is_same_name o.0 q) refl
  where
    by_test : (b : Bool) → is_same_name o.0 q ≡ b → b ≡ false
    by_test true h = absurd (false≢true (sym (neither (is_same_name q o.0) (list_any (is_same_name q) (own_names os)) none).0 ∙ same_named q o.0 (sym (named_same o.0 q h))))
    by_test false h = refl

-- each of these is found behind one of another name
found_still : (o : Name × Object) (os some : List (Name × Object)) → list_any (is_same_name o.0) (own_names some) ≡ false → AllByRecursion (λ (p : Name × Object). named_among p.0 os ≡ Some p.1) some
    → AllByRecursion (λ (p : Name × Object). named_among p.0 (o ∷ os) ≡ Some p.1) some
found_still o os [] other found = tt
found_still o os (p ∷ some) other found =
    let apart = neither (is_same_name o.0 p.0) (list_any (is_same_name o.0) (own_names some)) other in (
      one_among p.0 o os ∙ ap (λ b. cond b (Some o.1) (named_among p.0 os)) apart.0 ∙ found.0,
      found_still o os some apart.1 found.1,
    )

pub each_found : (os : List (Name × Object)) → HaveOwnNames os → AllByRecursion (λ (p : Name × Object). named_among p.0 os ≡ Some p.1) os
each_found [] own = tt
each_found (o ∷ os) own =
    let apart = neither (list_any (is_same_name o.0) (own_names os)) (any_twice is_same_name (own_names os)) own in (
      one_among o.0 o os ∙ ap (λ b. cond b (Some o.1) (named_among o.0 os)) (same_named o.0 o.0 refl),
      found_still o os os apart.0 (each_found os apart.1),
    )

-- ---- their database

none_some : {A : Type 0} (x : A) → Some x ≡ None → ⊥
none_some x h = absurd cc

-- an object of a new name takes its name's place among the others
put_placed : (db : Database) (name : Name) (o : Object) → entries.find name_order name db ≡ None → own_names (put name_order name o db) ≡ placed name_order name (own_names db)
put_placed [] name o none = refl
put_placed (e ∷ es) name o none = by_place (put_placed es name o) (name_order name e.0) none
  where
    by_place : (entries.find name_order name es ≡ None → own_names (put name_order name o es) ≡ placed name_order name (own_names es)) → (r : Ordering) → cond (is_eq r) (Some e.1) (entries.find name_order name es) ≡ None
        → own_names (by_order r ((name, o) ∷ e ∷ es) ((e.0, o) ∷ es) (e ∷ put name_order name o es)) ≡ (if is_gt r then (e.0 ∷ placed name_order name (own_names es)) else (name ∷ e.0 ∷ own_names es))
    by_place later Less h = refl
    by_place later Equal h = absurd (none_some e.1 h)
    by_place later Greater h = ap (λ (ns : List Name). e.0 ∷ ns) (later h)

-- each object under its name
abbrev pub built : List (Name × Object) → Database
built [] = []
built (o ∷ os) = with_object (built os) o.0 o.1

same_test : (a b : Name) → eq_by_cmp name_order a b ≡ bytes_eq b a
same_test a b = (eq_by_cmp_equiv nat_list_cmp_total).symm a b ∙ is_eq-slice_cmp b a

pub built_finds : (os : List (Name × Object)) (name : Name) → object (built os) name ≡ named_among name os
built_finds [] name = refl
built_finds (o ∷ os) name =
    find-put name_order nat_list_cmp_total (folded name) (folded o.0) o.1 (built os)
    ∙ ap (λ (b : Bool). cond b (Some o.1) (object (built os) name)) (same_test (folded name) (folded o.0))
    ∙ ap (cond (is_same_name o.0 name) (Some o.1)) (built_finds os name)
    ∙ sym (one_among name o os)

pub built_named : (os : List (Name × Object)) → IsNamed (built os)
built_named [] = record { rising = refl; each_folded = tt }
built_named (o ∷ os) = keeps_named (built os) o.0 o.1 (built_named os)

pub none_among : (name : Name) (os : List (Name × Object)) → list_any (is_same_name name) (own_names os) ≡ false → named_among name os ≡ None
none_among name [] none = refl
none_among name (o ∷ os) none =
    one_among name o os ∙ ap (λ b. cond b (Some o.1) (named_among name os)) (no_other name o os none)
    ∙ none_among name os (neither (is_same_name name o.0) (list_any (is_same_name name) (own_names os)) none).1

abbrev pub folded_names : List (Name × Object) → List Name
folded_names os = map (λ o. folded o.0) os

built_sorted : (os : List (Name × Object)) → HaveOwnNames os → own_names (built os) ≡ sorted name_order (folded_names os)
built_sorted [] own = refl
built_sorted (o ∷ os) own =
    let apart = neither (list_any (is_same_name o.0) (own_names os)) (any_twice is_same_name (own_names os)) own in
    put_placed (built os) (folded o.0) o.1 (built_finds os o.0 ∙ none_among o.0 os apart.0)
    ∙ ap (placed name_order (folded o.0)) (built_sorted os apart.1)

-- the database's names are those of the objects that it has, in order
pub names_sorted : (os : List (Name × Object)) (db : Database) → HaveOwnNames os → IsNamed db → ((name : Name) → object db name ≡ named_among name os) → sorted name_order (folded_names os) ≡ own_names db
names_sorted os db own named finds =
    sym (built_sorted os own) ∙ ap own_names (one_database (built os) db (built_named os) named (λ name. built_finds os name ∙ sym (finds name)))

-- ---- listed objects

index_names : (t : Table) (is : List ListedIndex) → own_names (map (λ (i : ListedIndex). (i.name, AnIndex (as_index t i))) is) ≡ map (λ (i : ListedIndex). i.name) is
index_names t [] = refl
index_names t (i ∷ is) = ap (λ ns. i.name ∷ ns) (index_names t is)

names_both : (os ps : List (Name × Object)) → own_names (os ++ ps) ≡ own_names os ++ own_names ps
names_both [] ps = refl
names_both (o ∷ os) ps = ap (λ ns. o.0 ∷ ns) (names_both os ps)

indexes_names : (tables : List Table) → own_names (flat_map index_objects tables) ≡ flat_map (λ (t : Table). map (λ (i : ListedIndex). i.name) t.indexes) tables
indexes_names [] = refl
indexes_names (t ∷ ts) =
    names_both (index_objects t) (flat_map index_objects ts)
    ∙ ap (λ ns. ns ++ own_names (flat_map index_objects ts)) (index_names t t.indexes)
    ∙ ap (λ ns. map (λ (i : ListedIndex). i.name) t.indexes ++ ns) (indexes_names ts)

view_names : (views : List View) → own_names (map view_object views) ≡ map (λ (v : View). v.definition.name) views
view_names [] = refl
view_names (v ∷ vs) = ap (λ ns. v.definition.name ∷ ns) (view_names vs)

trigger_names : (triggers : List Trigger) → own_names (map trigger_object triggers) ≡ map (λ (t : Trigger). t.definition.name) triggers
trigger_names [] = refl
trigger_names (t ∷ ts) = ap (λ ns. t.definition.name ∷ ns) (trigger_names ts)

treeless_named : (l : Listed) → own_names (treeless_objects l) ≡ treeless_names l
treeless_named l =
    names_both (map view_object l.views) (map trigger_object l.triggers)
    ∙ ap (λ ns. ns ++ own_names (map trigger_object l.triggers)) (view_names l.views)
    ∙ ap (λ ns. map (λ (v : View). v.definition.name) l.views ++ ns) (trigger_names l.triggers)

table_names : (rows_at : ℕ → List (ℤ × List Value)) (tables : List Table) → own_names (map (table_object rows_at) tables) ≡ map (λ (t : Table). t.name) tables
table_names rows_at [] = refl
table_names rows_at (t ∷ ts) = ap (λ ns. t.name ∷ ns) (table_names rows_at ts)

-- behind the tables: those of views and triggers, then those of indexes
pub behind_names : (l : Listed) → own_names (treeless_objects l ++ flat_map index_objects l.tables)
    ≡ treeless_names l ++ flat_map (λ (t : Table). map (λ (i : ListedIndex). i.name) t.indexes) l.tables
behind_names l =
    names_both (treeless_objects l) (flat_map index_objects l.tables)
    ∙ ap (λ ns. ns ++ own_names (flat_map index_objects l.tables)) (treeless_named l)
    ∙ ap (λ ns. treeless_names l ++ ns) (indexes_names l.tables)

names_are : (rows_at : ℕ → List (ℤ × List Value)) (l : Listed) → own_names (objects_of rows_at l) ≡ names_of l
names_are rows_at l =
    names_both (map (table_object rows_at) l.tables) (treeless_objects l ++ flat_map index_objects l.tables)
    ∙ ap (λ ns. ns ++ own_names (treeless_objects l ++ flat_map index_objects l.tables)) (table_names rows_at l.tables)
    ∙ ap (λ ns. map (λ (t : Table). t.name) l.tables ++ ns) (behind_names l)

pub is_no : (b : Bool) → not b ≡ true → b ≡ false
is_no true h = absurd (false≢true h)
is_no false h = refl

-- where each is named once they have names of their own
pub objects_apart : (rows_at : ℕ → List (ℤ × List Value)) (l : Listed) → are_named_once l ≡ true → HaveOwnNames (objects_of rows_at l)
objects_apart rows_at l once = ap (any_twice is_same_name) (names_are rows_at l) ∙ is_no (any_twice is_same_name (names_of l)) once
