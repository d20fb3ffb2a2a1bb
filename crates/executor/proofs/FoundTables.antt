-- What the names of a listed table and of its indexes find.
use Rattle.std.proofs.Common.{◌≡◌, refl, sym, ap, ◌∙◌, ◌==◌, ◌&&◌, ℕ, Bool, true, false, not, ◌||◌, cond, map, List, [], ◌∷◌, ◌++◌, append_assoc, Some, arith}
use Rattle.std.proofs.lemmas.Bool.{false≢true}
use Rattle.std.proofs.lemmas.Grind.{flat_map-append}
use Rattle.std.proofs.lemmas.Bool.Decides.{nat_tests}
use Rattle.std.specs.List as list
use Rattle.std.specs.List.{AllByRecursion, list_any}
use Rattle.std.specs.Prelude.{flat_map, option_map, bytes_eq}
use Rattle.sqlval.specs.Lists.{any_twice}
use Rattle.sqlval.specs.Names.{folded, is_same_name}
use Rattle.catalog.specs.Database.{AnIndex, ATable, Database, Name, Object, object}
use Rattle.catalog.specs.Listed.{Lists, index_objects, named_among, names_of, objects_of, as_index, with_rows, table_named, table_object, treeless_names, treeless_objects, trigger_object, Listed, view_object}
use Rattle.catalog.specs.Named.{IsOfListed}
use Rattle.catalog.specs.declared.tables.Index.{Index}
use Rattle.catalog.specs.declared.tables.Table.{Table}
use Rattle.catalog.proofs.Found.{as_object, behind_found, listed_as}
use Rattle.row_scan.specs.Rows.{TableRow}
use Rattle.executor.specs.Changing.{IsIndexIn}
use Rattle.catalog.specs.declared.tables.Trigger.{Trigger}
use Rattle.catalog.specs.declared.tables.View.{View}

-- the name of a listed table finds it
pub table_found : (rows_at : ℕ → List TableRow) (l : Listed) (db : Database) (name : Name) (t : Table) → Lists rows_at l db → table_named name l.tables ≡ Some t
    → object db name ≡ Some (ATable (with_rows t (rows_at t.root)))
table_found rows_at l db name t lists named = lists name ∙ (listed_as rows_at name l ∙ ap (as_object rows_at (behind_found name l)) named)

-- ---- names that stand once

same_number : (n : ℕ) → (n == n) ≡ true
same_number n = grind (arith, nat_tests)

pub same_bytes : (xs : List ℕ) → bytes_eq xs xs ≡ true
same_bytes [] = refl
same_bytes (x ∷ xs) = ap (λ (b : Bool). b && bytes_eq xs xs) (same_number x) ∙ same_bytes xs

pub neither : (a b : Bool) → (a || b) ≡ false → (a ≡ false) × (b ≡ false)
neither true b h = absurd (false≢true (sym h))
neither false b h = (refl, h)

pub no_no : (b : Bool) → not b ≡ true → b ≡ false
no_no true h = absurd (false≢true h)
no_no false h = refl

abbrev pub names : List (Name × Object) → List Name
names os = map (λ (o : Name × Object). o.0) os

in_middle : (p : Name → Bool) (before : List (Name × Object)) (o : Name × Object) (after : List (Name × Object)) → list_any p (names (before ++ o ∷ after)) ≡ false → p o.0 ≡ false
in_middle p [] o after none = (neither (p o.0) (list_any p (names after)) none).0
in_middle p (x ∷ before) o after none = in_middle p before o after (neither (p x.0) (list_any p (names (before ++ o ∷ after))) none).1

itself : (name : Name) → is_same_name name name ≡ true
itself name = same_bytes (folded name)

-- an object whose name no other has is found under it
found_alone : (before : List (Name × Object)) (o : Name × Object) (after : List (Name × Object)) → any_twice is_same_name (names (before ++ o ∷ after)) ≡ false
    → named_among o.0 (before ++ o ∷ after) ≡ Some o.1
found_alone [] o after once = ap (λ b. option_map (λ (x : Name × Object). x.1) (cond b (Some o) (list.find (λ (x : Name × Object). is_same_name x.0 o.0) after))) (itself o.0)
found_alone (x ∷ before) o after once =
    let both = neither (list_any (is_same_name x.0) (names (before ++ o ∷ after))) (any_twice is_same_name (names (before ++ o ∷ after))) once in
    ap (λ b. option_map (λ (y : Name × Object). y.1) (cond b (Some x) (list.find (λ (y : Name × Object). is_same_name y.0 o.0) (before ++ o ∷ after)))) (in_middle (is_same_name x.0) before o after both.0)
    ∙ found_alone before o after both.1

-- ---- the indexes of a listed table

names_both : (xs ys : List (Name × Object)) → names (xs ++ ys) ≡ names xs ++ names ys
names_both [] ys = refl
names_both (x ∷ xs) ys = ap (λ ns. x.0 ∷ ns) (names_both xs ys)

index_names : (t : Table) (is : List Index) → names (map (λ (i : Index). (i.name, AnIndex (as_index t i))) is) ≡ map (λ (i : Index). i.name) is
index_names t [] = refl
index_names t (i ∷ is) = ap (λ ns. i.name ∷ ns) (index_names t is)

all_index_names : (tables : List Table) → names (flat_map index_objects tables) ≡ flat_map (λ (t : Table). map (λ (i : Index). i.name) t.indexes) tables
all_index_names [] = refl
all_index_names (t ∷ ts) =
    names_both (index_objects t) (flat_map index_objects ts)
    ∙ (ap (λ ns. ns ++ names (flat_map index_objects ts)) (index_names t t.indexes) ∙ ap (λ ns. map (λ (i : Index). i.name) t.indexes ++ ns) (all_index_names ts))

table_names : (rows_at : ℕ → List TableRow) (tables : List Table) → names (map (table_object rows_at) tables) ≡ map (λ (t : Table). t.name) tables
table_names rows_at [] = refl
table_names rows_at (t ∷ ts) = ap (λ ns. t.name ∷ ns) (table_names rows_at ts)

view_names : (views : List View) → names (map view_object views) ≡ map (λ (v : View). v.definition.name) views
view_names [] = refl
view_names (v ∷ vs) = ap (λ ns. v.definition.name ∷ ns) (view_names vs)

trigger_names : (triggers : List Trigger) → names (map trigger_object triggers) ≡ map (λ (t : Trigger). t.definition.name) triggers
trigger_names [] = refl
trigger_names (t ∷ ts) = ap (λ ns. t.definition.name ∷ ns) (trigger_names ts)

treeless_named : (l : Listed) → names (treeless_objects l) ≡ treeless_names l
treeless_named l =
    names_both (map view_object l.views) (map trigger_object l.triggers)
    ∙ (ap (λ ns. ns ++ names (map trigger_object l.triggers)) (view_names l.views) ∙ ap (λ ns. map (λ (v : View). v.definition.name) l.views ++ ns) (trigger_names l.triggers))

pub names_are : (rows_at : ℕ → List TableRow) (l : Listed) → names (objects_of rows_at l) ≡ names_of l
names_are rows_at l =
    names_both (map (table_object rows_at) l.tables) (treeless_objects l ++ flat_map index_objects l.tables)
    ∙ (ap (λ ns. ns ++ names (treeless_objects l ++ flat_map index_objects l.tables)) (table_names rows_at l.tables)
    ∙ ap (λ ns. map (λ (t : Table). t.name) l.tables ++ ns) (names_both (treeless_objects l) (flat_map index_objects l.tables)
    ∙ (ap (λ ns. ns ++ names (flat_map index_objects l.tables)) (treeless_named l) ∙ ap (λ ns. treeless_names l ++ ns) (all_index_names l.tables))))

module _ (rows_at : ℕ → List TableRow) (l : Listed) (db : Database) (is : IsOfListed rows_at l db) where
  abbrev all : List (Name × Object)
  all = objects_of rows_at l

  once : any_twice is_same_name (names all) ≡ false
  once = ap (any_twice is_same_name) (names_are rows_at l) ∙ no_no (any_twice is_same_name (names_of l)) is.once

  abbrev listed_index : Table → Index → Name × Object
  listed_index t i = (i.name, AnIndex (as_index t i))

  each_found : (t : Table) (before : List (Name × Object)) (indexes : List Index) (after : List (Name × Object)) → all ≡ before ++ (map (listed_index t) indexes ++ after) → AllByRecursion (IsIndexIn db t) indexes
  each_found t before [] after parts = tt
  each_found t before (i ∷ indexes) after parts = (
    is.lists i.name ∙ (ap (named_among i.name) parts
        ∙ found_alone before (listed_index t i) (map (listed_index t) indexes ++ after) (ap (λ os. any_twice is_same_name (names os)) (sym parts) ∙ once)),
    each_found t (before ++ listed_index t i ∷ []) indexes after (parts ∙ sym (append_assoc before (listed_index t i ∷ []) (map (listed_index t) indexes ++ after))),
  )

  -- the name of each index of a listed table finds it
  pub indexes_listed : (front : List Table) (t : Table) (back : List Table) → l.tables ≡ front ++ t ∷ back → AllByRecursion (IsIndexIn db t) t.indexes
  indexes_listed front t back parts =
      each_found t (map (table_object rows_at) l.tables ++ (treeless_objects l ++ flat_map index_objects front)) t.indexes (flat_map index_objects back)
      (ap (λ os. map (table_object rows_at) l.tables ++ (treeless_objects l ++ os)) (ap (flat_map index_objects) parts ∙ flat_map-append index_objects front (t ∷ back))
      ∙ (ap (λ os. map (table_object rows_at) l.tables ++ os) (sym (append_assoc (treeless_objects l) (flat_map index_objects front) (index_objects t ++ flat_map index_objects back)))
      ∙ sym (append_assoc (map (table_object rows_at) l.tables) (treeless_objects l ++ flat_map index_objects front) (index_objects t ++ flat_map index_objects back))))
