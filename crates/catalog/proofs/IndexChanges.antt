-- A listed database with one index more, and with one less.
use Rattle.std.proofs.Common.{◌≡◌, refl, sym, ap, subst, ◌∙◌, ℕ, ℤ, Bool, true, false, ◌||◌, List, [], ◌∷◌, ◌++◌, append_assoc, map, filter, not, Option, Some, None, cond}
use Rattle.std.proofs.lemmas.Bool.{false≢true}
use Rattle.std.proofs.lemmas.Cmp.{nat_list_cmp_total}
use Rattle.std.proofs.lemmas.Grind.{flat_map-append}
use Rattle.std.proofs.lemmas.List.{map-append}
use Rattle.std.proofs.lemmas.List.Elements.{filter-append}
use Rattle.std.specs.FinMap.Entries.{find-put}
use Rattle.std.specs.List as list
use Rattle.std.specs.List.{list_any}
use Rattle.std.specs.Prelude.{flat_map, is_some, option_map}
use Rattle.std.specs.Str.{bytes_eq}
use Rattle.sqlval.specs.Lists.{any_twice}
use Rattle.sqlval.specs.Names.{folded, is_same_name}
use Rattle.sqlval.specs.declared.value.Value.{Value}
use Rattle.catalog.specs.Database.{Name, Database, Object, AnIndex, name_order, object, with_object}
use Rattle.catalog.specs.Listed.{Listed, has_index, index_objects, is_on, is_table, named_among, names_of, objects_of, as_index, table_object, treeless_names, treeless_objects, trigger_object, view_object, with_replaced, without_table, without_triggers_on}
use Rattle.catalog.specs.Named.{goes_with, without}
use Rattle.catalog.specs.NewIndexes.{ListsNewIndex, ListsOtherIndexes, replacing, with_index, without_index}
use Rattle.catalog.specs.declared.tables.Index.{Index as ListedIndex}
use Rattle.catalog.specs.declared.tables.Table.{Table}
use Rattle.catalog.specs.declared.tables.Trigger.{Trigger}
use Rattle.catalog.proofs.Dropped.{IsOf, as_listed, as_objects, found_holds, indexes_left, is_no, joined, less, neither, none_among, none_go, other_name, same, stays, tells, treeless_left, turned}
use Rattle.catalog.proofs.Found.{names_found}
use Rattle.catalog.proofs.NamedDatabases.{folded_twice, keeps_named, same_test}

-- ---- a table in place of itself

-- where its name stands once, only the table itself is replaced
none_replaced : (new : Table) (tables : List Table) → list_any (is_same_name new.name) (map (λ (t : Table). t.name) tables) ≡ false → with_replaced new tables ≡ tables
none_replaced new [] none = refl
none_replaced new (u ∷ us) none =
    let both = neither (is_same_name new.name u.name) (list_any (is_same_name new.name) (map (λ (t : Table). t.name) us)) none in
    ap (λ b. cond b new u ∷ with_replaced new us) (other_name new.name u.name both.0) ∙ ap (λ ts. u ∷ ts) (none_replaced new us both.1)

-- the tables before a table, and those after it
record IsSplit (t : Table) (tables : List Table) : Type 0 where
  before : List Table
  after : List Table
  parts : tables ≡ before ++ t ∷ after
  replaced : (new : Table) → new.name ≡ t.name → with_replaced new tables ≡ before ++ new ∷ after

abbrev pub table_names : List Table → List Name
table_names tables = map (λ (t : Table). t.name) tables

named_in_middle : (p : Name → Bool) (before : List Table) (t : Table) (after : List Table) → list_any p (table_names (before ++ t ∷ after)) ≡ false → p t.name ≡ false
named_in_middle p [] t after none = (neither (p t.name) (list_any p (table_names after)) none).0
named_in_middle p (u ∷ before) t after none = named_in_middle p before t after (neither (p u.name) (list_any p (table_names (before ++ t ∷ after))) none).1

split_at : (p : Table → Bool) (tables : List Table) (t : Table) → any_twice is_same_name (table_names tables) ≡ false → list.find p tables ≡ Some t → IsSplit t tables
split_at p [] t once found = absurd cc
split_at p (u ∷ us) t once found =
    let both = neither (list_any (is_same_name u.name) (table_names us)) (any_twice is_same_name (table_names us)) once in
    by_test both.0 (split_at p us t both.1) (p u) found
  where
    by_test : list_any (is_same_name u.name) (table_names us) ≡ false → (list.find p us ≡ Some t → IsSplit t us) → (b : Bool) → cond b (Some u) (list.find p us) ≡ Some t → IsSplit t (u ∷ us)
    by_test none later true found =
        let is : u ≡ t = cc in record {
          before = [];
          after = us;
          parts = ap (λ (x : Table). x ∷ us) is;
          replaced = λ new name.
              (let at : new.name ≡ u.name = name ∙ ap (λ (x : Table). x.name) (sym is) in
              ap (λ b. cond b new u ∷ with_replaced new us) (tells (folded u.name) (folded new.name) (ap folded (sym at)))
              ∙ ap (λ ts. new ∷ ts) (none_replaced new us (subst (λ (n : Name). list_any (is_same_name n) (table_names us) ≡ false) (sym at) none)));
        }
    by_test none later false found =
        let rest = later found in
        let other : is_same_name u.name t.name ≡ false = named_in_middle (is_same_name u.name) rest.before t rest.after (subst (λ (ts : List Table). list_any (is_same_name u.name) (table_names ts) ≡ false) rest.parts none) in record {
          before = u ∷ rest.before;
          after = rest.after;
          parts = ap (λ ts. u ∷ ts) rest.parts;
          replaced = λ new name.
              ap (λ b. cond b new u ∷ with_replaced new us) (subst (λ (n : Name). is_same_name u.name n ≡ false) (sym name) other) ∙ ap (λ ts. u ∷ ts) (rest.replaced new name);
        }

-- ---- names

pub first_part : (p : Name → Bool) (xs ys : List Name) → list_any p (xs ++ ys) ≡ false → (list_any p xs ≡ false) × (list_any p ys ≡ false)
first_part p [] ys none = (refl, none)
first_part p (x ∷ xs) ys none =
    let both = neither (p x) (list_any p (xs ++ ys)) none in let rest = first_part p xs ys both.1 in (ap (λ b. b || list_any p xs) both.0 ∙ rest.0, rest.1)

both_parts : (p : Name → Bool) (xs ys : List Name) → list_any p xs ≡ false → list_any p ys ≡ false → list_any p (xs ++ ys) ≡ false
both_parts p [] ys none others = others
both_parts p (x ∷ xs) ys none others = let both = neither (p x) (list_any p xs) none in ap (λ b. b || list_any p (xs ++ ys)) both.0 ∙ both_parts p xs ys both.1 others

once_first : (xs ys : List Name) → any_twice is_same_name (xs ++ ys) ≡ false → any_twice is_same_name xs ≡ false
once_first [] ys once = refl
once_first (x ∷ xs) ys once =
    let both = neither (list_any (is_same_name x) (xs ++ ys)) (any_twice is_same_name (xs ++ ys)) once in
    ap (λ b. b || any_twice is_same_name xs) (first_part (is_same_name x) xs ys both.0).0 ∙ once_first xs ys both.1

pub once_inserted : (xs : List Name) (x : Name) (ys : List Name) → any_twice is_same_name (xs ++ ys) ≡ false → list_any (is_same_name x) (xs ++ ys) ≡ false → any_twice is_same_name (xs ++ x ∷ ys) ≡ false
once_inserted [] x ys once none = ap (λ b. b || any_twice is_same_name ys) none ∙ once
once_inserted (y ∷ xs) x ys once none =
    let both = neither (list_any (is_same_name y) (xs ++ ys)) (any_twice is_same_name (xs ++ ys)) once in
    let others = neither (is_same_name x y) (list_any (is_same_name x) (xs ++ ys)) none in
    let parts = first_part (is_same_name y) xs ys both.0 in
    ap (λ b. b || any_twice is_same_name (xs ++ x ∷ ys))
    (both_parts (is_same_name y) xs (x ∷ ys) parts.0 (ap (λ b. b || list_any (is_same_name y) ys) (other_name x y others.0) ∙ parts.1))
    ∙ once_inserted xs x ys both.1 others.1

-- what isn't found has a name of its own
pub own : (name : Name) (os : List (Name × Object)) → named_among name os ≡ None → list_any (is_same_name name) (map (λ (o : Name × Object). o.0) os) ≡ false
own name [] none = refl
own name (o ∷ os) none = by_test (own name os) (is_same_name o.0 name) refl none
  where
    by_test : (named_among name os ≡ None → list_any (is_same_name name) (map (λ (o : Name × Object). o.0) os) ≡ false) → (b : Bool) → is_same_name o.0 name ≡ b
        → option_map (λ (x : Name × Object). x.1) (cond b (Some o) (list.find (λ (x : Name × Object). is_same_name x.0 name) os)) ≡ None
        → (is_same_name name o.0 || list_any (is_same_name name) (map (λ (o : Name × Object). o.0) os)) ≡ false
    by_test rest true e none = absurd cc
    by_test rest false e none = ap (λ b. b || list_any (is_same_name name) (map (λ (o : Name × Object). o.0) os)) (other_name o.0 name e) ∙ rest none

-- ---- an object more

pub inserted : (q : Name) (front : List (Name × Object)) (o : Name × Object) (back : List (Name × Object)) → (is_same_name o.0 q ≡ true → named_among q (front ++ back) ≡ None)
    → named_among q (front ++ o ∷ back) ≡ cond (is_same_name o.0 q) (Some o.1) (named_among q (front ++ back))
inserted q [] o back fresh = by_test (is_same_name o.0 q)
  where
    by_test : (b : Bool) → option_map (λ (x : Name × Object). x.1) (cond b (Some o) (list.find (λ (x : Name × Object). is_same_name x.0 q) back)) ≡ cond b (Some o.1) (named_among q back)
    by_test true = refl
    by_test false = refl
inserted q (y ∷ front) o back fresh = by_test (inserted q front o back) (is_same_name y.0 q) refl fresh
  where
    none_same : (b : Bool) → (b ≡ true → Some y.1 ≡ None) → b ≡ false
    none_same true h = absurd (let e = h refl in cc)
    none_same false h = refl

    by_test : ((is_same_name o.0 q ≡ true → named_among q (front ++ back) ≡ None) → named_among q (front ++ o ∷ back) ≡ cond (is_same_name o.0 q) (Some o.1) (named_among q (front ++ back)))
        → (b : Bool) → is_same_name y.0 q ≡ b
        → (is_same_name o.0 q ≡ true → option_map (λ (x : Name × Object). x.1) (cond b (Some y) (list.find (λ (x : Name × Object). is_same_name x.0 q) (front ++ back))) ≡ None)
        → option_map (λ (x : Name × Object). x.1) (cond b (Some y) (list.find (λ (x : Name × Object). is_same_name x.0 q) (front ++ o ∷ back)))
        ≡ cond (is_same_name o.0 q) (Some o.1) (option_map (λ (x : Name × Object). x.1) (cond b (Some y) (list.find (λ (x : Name × Object). is_same_name x.0 q) (front ++ back))))
    by_test rest true e fresh = sym (ap (λ b. cond b (Some o.1) (Some y.1)) (none_same (is_same_name o.0 q) fresh))
    by_test rest false e fresh = rest fresh

-- the objects that are listed, up to the indexes of one of the tables
abbrev listed_before : (ℕ → List (ℤ × List Value)) → Listed → List Table → Table → List Table → List (Name × Object)
listed_before rows_at l before t after = map (table_object rows_at) (before ++ t ∷ after) ++ (treeless_objects l ++ (flat_map index_objects before ++ index_objects t))

abbrev split_in : Listed → List Table → Table → List Table → Listed
split_in l before t after = record l { tables = before ++ t ∷ after }

objects_split : (rows_at : ℕ → List (ℤ × List Value)) (l : Listed) (before : List Table) (t : Table) (after : List Table)
    → objects_of rows_at (split_in l before t after) ≡ listed_before rows_at l before t after ++ flat_map index_objects after
objects_split rows_at l before t after =
    let front : List (Name × Object) = map (table_object rows_at) (before ++ t ∷ after) in
    let seen : List (Name × Object) = treeless_objects l in
    ap (λ os. front ++ (seen ++ os)) (flat_map-append index_objects before (t ∷ after) ∙ sym (append_assoc (flat_map index_objects before) (index_objects t) (flat_map index_objects after)))
    ∙ (ap (λ os. front ++ os) (sym (append_assoc seen (flat_map index_objects before ++ index_objects t) (flat_map index_objects after)))
    ∙ sym (append_assoc front (seen ++ (flat_map index_objects before ++ index_objects t)) (flat_map index_objects after)))

same_tables : (rows_at : ℕ → List (ℤ × List Value)) (before : List Table) (t : Table) (is : List ListedIndex) (after : List Table)
    → map (table_object rows_at) (before ++ (record t { indexes = is }) ∷ after) ≡ map (table_object rows_at) (before ++ t ∷ after)
same_tables rows_at [] t is after = refl
same_tables rows_at (u ∷ before) t is after = ap (λ os. table_object rows_at u ∷ os) (same_tables rows_at before t is after)

objects_more : (rows_at : ℕ → List (ℤ × List Value)) (l : Listed) (before : List Table) (t : Table) (i : ListedIndex) (after : List Table)
    → objects_of rows_at (split_in l before (with_index i t) after) ≡ listed_before rows_at l before t after ++ (i.name, AnIndex (as_index t i)) ∷ flat_map index_objects after
objects_more rows_at l before t i after =
    let new : List (Name × Object) = (i.name, AnIndex (as_index t i)) ∷ [] in
    let front : List (Name × Object) = map (table_object rows_at) (before ++ t ∷ after) in
    let seen : List (Name × Object) = treeless_objects l in
    let back : List (Name × Object) = flat_map index_objects after in
    objects_split rows_at l before (with_index i t) after
    ∙ (ap (λ os. (os ++ (seen ++ (flat_map index_objects before ++ index_objects (with_index i t)))) ++ back) (same_tables rows_at before t (t.indexes ++ i ∷ []) after)
    ∙ (ap (λ os. (front ++ (seen ++ (flat_map index_objects before ++ os))) ++ back) (map-append (λ (j : ListedIndex). (j.name, AnIndex (as_index t j))) t.indexes (i ∷ []))
    ∙ (ap (λ os. (front ++ (seen ++ os)) ++ back) (sym (append_assoc (flat_map index_objects before) (index_objects t) new))
    ∙ (ap (λ os. (front ++ os) ++ back) (sym (append_assoc seen (flat_map index_objects before ++ index_objects t) new))
    ∙ (ap (λ os. os ++ back) (sym (append_assoc front (seen ++ (flat_map index_objects before ++ index_objects t)) new))
    ∙ append_assoc (listed_before rows_at l before t after) new back)))))

-- with an object of a new name
pub more : (front back : List (Name × Object)) (o : Name × Object) (db : Database) → IsOf (front ++ back) db → named_among o.0 (front ++ back) ≡ None → IsOf (front ++ o ∷ back) (with_object db o.0 o.1)
more front back o db is none = record {
  finds = λ q.
      find-put name_order nat_list_cmp_total (folded q) (folded o.0) o.1 db
      ∙ (ap (λ b. cond b (Some o.1) (object db q)) (same_test (folded q) (folded o.0))
      ∙ (ap (cond (is_same_name o.0 q) (Some o.1)) (is.finds q) ∙ sym (inserted q front o back (none_at q))));
  named = keeps_named db o.0 o.1 is.named;
  once = ap (any_twice is_same_name) (map-append (λ (x : Name × Object). x.0) front (o ∷ back))
      ∙ once_inserted (map (λ (x : Name × Object). x.0) front) o.0 (map (λ (x : Name × Object). x.0) back)
      (ap (any_twice is_same_name) (sym (map-append (λ (x : Name × Object). x.0) front back)) ∙ is.once)
      (ap (list_any (is_same_name o.0)) (sym (map-append (λ (x : Name × Object). x.0) front back)) ∙ own o.0 (front ++ back) none);
}
  where
    none_at : (q : Name) → is_same_name o.0 q ≡ true → named_among q (front ++ back) ≡ None
    none_at q h = ap (λ (n : Name). option_map (λ (x : Name × Object). x.1) (list.find (λ (x : Name × Object). bytes_eq (folded x.0) n) (front ++ back))) (sym (same (folded o.0) (folded q) h)) ∙ none

-- what is no name of what is listed finds nothing
pub finds_none : (rows_at : ℕ → List (ℤ × List Value)) (l : Listed) (name : Name) → is_some (named_among name (objects_of rows_at l)) ≡ false → named_among name (objects_of rows_at l) ≡ None
finds_none rows_at l name = nothing (named_among name (objects_of rows_at l))
  where
    nothing : (found : Option Object) → is_some found ≡ false → found ≡ None
    nothing None h = refl
    nothing (Some o) h = absurd (false≢true (sym h))

pub lists_new_index : ListsNewIndex
lists_new_index rows_at l db t i is found fresh =
    as_listed rows_at (replacing (with_index i t) l) (with_object db i.name (AnIndex (as_index t i))) (front ++ new ∷ back) (sym objects_then)
    (more front back new db (subst (λ os. IsOf os db) objects_are (as_objects rows_at l db is))
    (ap (named_among i.name) (sym objects_are) ∙ finds_none rows_at l i.name (names_found rows_at i.name l ∙ fresh)))
  where
    names_once : any_twice is_same_name (names_of l) ≡ false
    names_once = is_no (any_twice is_same_name (names_of l)) is.once

    split : IsSplit t l.tables
    split = split_at (is_table t.name) l.tables t (once_first (table_names l.tables) _ names_once) found

    front : List (Name × Object)
    front = listed_before rows_at l split.before t split.after

    back : List (Name × Object)
    back = flat_map index_objects split.after

    new : Name × Object
    new = (i.name, AnIndex (as_index t i))

    objects_are : objects_of rows_at l ≡ front ++ back
    objects_are = ap (λ (ts : List Table). objects_of rows_at (record l { tables = ts })) split.parts ∙ objects_split rows_at l split.before t split.after

    objects_then : objects_of rows_at (replacing (with_index i t) l) ≡ front ++ new ∷ back
    objects_then = ap (λ (ts : List Table). objects_of rows_at (record l { tables = ts })) (split.replaced (with_index i t) refl) ∙ objects_more rows_at l split.before t i split.after

-- ---- an index less

abbrev index_object : Table → ListedIndex → Name × Object
index_object t i = (i.name, AnIndex (as_index t i))

-- only indexes of the name itself go of a table of another name
others_stay : (name : Name) (t : Table) (is : List ListedIndex) → is_same_name name t.name ≡ false
    → filter (stays name) (map (index_object t) is) ≡ map (index_object t) (filter (λ (i : ListedIndex). not (is_same_name i.name name)) is)
others_stay name t [] apart = refl
others_stay name t (i ∷ is) apart =
    ap (λ b. cond (not (is_same_name name i.name || b)) (index_object t i ∷ filter (stays name) (map (index_object t) is)) (filter (stays name) (map (index_object t) is))) apart_folded
    ∙ by_test (others_stay name t is apart) (is_same_name name i.name) (is_same_name i.name name) (turned name i.name)
  where
    apart_folded : is_same_name name (folded t.name) ≡ false
    apart_folded = ap (λ n. bytes_eq (folded name) n) (folded_twice t.name) ∙ apart

    by_test : filter (stays name) (map (index_object t) is) ≡ map (index_object t) (filter (λ (i : ListedIndex). not (is_same_name i.name name)) is) → (b c : Bool) → b ≡ c
        → cond (not (b || false)) (index_object t i ∷ filter (stays name) (map (index_object t) is)) (filter (stays name) (map (index_object t) is))
        ≡ map (index_object t) (cond (not c) (i ∷ filter (λ (i : ListedIndex). not (is_same_name i.name name)) is) (filter (λ (i : ListedIndex). not (is_same_name i.name name)) is))
    by_test rest true c e = rest ∙ ap (λ c. map (index_object t) (cond (not c) (i ∷ filter (λ (i : ListedIndex). not (is_same_name i.name name)) is) (filter (λ (i : ListedIndex). not (is_same_name i.name name)) is))) e
    by_test rest false c e =
        ap (λ os. index_object t i ∷ os) rest
        ∙ ap (λ c. map (index_object t) (cond (not c) (i ∷ filter (λ (i : ListedIndex). not (is_same_name i.name name)) is) (filter (λ (i : ListedIndex). not (is_same_name i.name name)) is))) e

-- a name that one of two parts has, the other doesn't
abbrev pub is_name : Name → Name → Bool
is_name name n = is_same_name n name

none_with : (x name : Name) (ys : List Name) → list_any (is_same_name x) ys ≡ false → list_any (is_name name) ys ≡ true → is_same_name name x ≡ false
none_with x name [] none some = absurd (false≢true some)
none_with x name (y ∷ ys) none some =
    let both = neither (is_same_name x y) (list_any (is_same_name x) ys) none in by_test both.0 (none_with x name ys both.1) (is_name name y) refl some
  where
    by_other : is_same_name x y ≡ false → is_name name y ≡ true → (b : Bool) → is_same_name name x ≡ b → b ≡ false
    by_other other at true e = absurd (false≢true (sym other ∙ joined x name y (tells (folded x) (folded name) (sym (same (folded name) (folded x) e))) at))
    by_other other at false e = refl

    by_test : is_same_name x y ≡ false → (list_any (is_name name) ys ≡ true → is_same_name name x ≡ false) → (b : Bool) → is_name name y ≡ b → (b || list_any (is_name name) ys) ≡ true → is_same_name name x ≡ false
    by_test other rest true e some = by_other other e (is_same_name name x) refl
    by_test other rest false e some = rest some

pub none_before : (name : Name) (xs ys : List Name) → any_twice is_same_name (xs ++ ys) ≡ false → list_any (is_name name) ys ≡ true → list_any (is_same_name name) xs ≡ false
none_before name [] ys once some = refl
none_before name (x ∷ xs) ys once some =
    let both = neither (list_any (is_same_name x) (xs ++ ys)) (any_twice is_same_name (xs ++ ys)) once in
    ap (λ b. b || list_any (is_same_name name) xs) (none_with x name ys (first_part (is_same_name x) xs ys both.0).1 some) ∙ none_before name xs ys both.1 some

none_like : (x name : Name) (ys : List Name) → is_name name x ≡ true → list_any (is_same_name x) ys ≡ false → list_any (is_same_name name) ys ≡ false
none_like x name [] at none = refl
none_like x name (y ∷ ys) at none =
    let both = neither (is_same_name x y) (list_any (is_same_name x) ys) none in
    ap (λ b. b || list_any (is_same_name name) ys) (subst (λ (k : Name). bytes_eq k (folded y) ≡ false) (same (folded x) (folded name) at) both.0) ∙ none_like x name ys at both.1

pub none_behind : (name : Name) (xs ys : List Name) → any_twice is_same_name (xs ++ ys) ≡ false → list_any (is_name name) xs ≡ true → list_any (is_same_name name) ys ≡ false
none_behind name [] ys once some = absurd (false≢true some)
none_behind name (x ∷ xs) ys once some =
    let both = neither (list_any (is_same_name x) (xs ++ ys)) (any_twice is_same_name (xs ++ ys)) once in by_test both.0 (none_behind name xs ys both.1) (is_name name x) refl some
  where
    by_test : list_any (is_same_name x) (xs ++ ys) ≡ false → (list_any (is_name name) xs ≡ true → list_any (is_same_name name) ys ≡ false) → (b : Bool) → is_name name x ≡ b → (b || list_any (is_name name) xs) ≡ true
        → list_any (is_same_name name) ys ≡ false
    by_test none rest true e some = none_like x name ys e (first_part (is_same_name x) xs ys none).1
    by_test none rest false e some = rest some

pub once_second : (xs ys : List Name) → any_twice is_same_name (xs ++ ys) ≡ false → any_twice is_same_name ys ≡ false
once_second [] ys once = once
once_second (x ∷ xs) ys once = once_second xs ys (neither (list_any (is_same_name x) (xs ++ ys)) (any_twice is_same_name (xs ++ ys)) once).1

abbrev pub index_names_of : List Table → List Name
index_names_of tables = flat_map (λ (t : Table). map (λ (i : ListedIndex). i.name) t.indexes) tables

pub some_first : (p : Name → Bool) (xs ys : List Name) → list_any p xs ≡ true → list_any p (xs ++ ys) ≡ true
some_first p [] ys some = absurd (false≢true some)
some_first p (x ∷ xs) ys some = by_test (some_first p xs ys) (p x) some
  where
    by_test : (list_any p xs ≡ true → list_any p (xs ++ ys) ≡ true) → (b : Bool) → (b || list_any p xs) ≡ true → (b || list_any p (xs ++ ys)) ≡ true
    by_test rest true e = refl
    by_test rest false e = rest e

pub some_second : (p : Name → Bool) (xs ys : List Name) → list_any p ys ≡ true → list_any p (xs ++ ys) ≡ true
some_second p [] ys some = some
some_second p (x ∷ xs) ys some = by_test (p x) (some_second p xs ys some)
  where
    by_test : (b : Bool) → list_any p (xs ++ ys) ≡ true → (b || list_any p (xs ++ ys)) ≡ true
    by_test true e = refl
    by_test false e = e

pub named_index : (name : Name) (is : List ListedIndex) → list_any (λ (i : ListedIndex). is_same_name i.name name) is ≡ list_any (is_name name) (map (λ (i : ListedIndex). i.name) is)
named_index name [] = refl
named_index name (i ∷ is) = ap (λ b. is_same_name i.name name || b) (named_index name is)

pub table_object_names : (rows_at : ℕ → List (ℤ × List Value)) (tables : List Table) → map (λ (o : Name × Object). o.0) (map (table_object rows_at) tables) ≡ table_names tables
table_object_names rows_at [] = refl
table_object_names rows_at (t ∷ ts) = ap (λ ns. t.name ∷ ns) (table_object_names rows_at ts)

-- tables of other names stay
pub tables_stay : (rows_at : ℕ → List (ℤ × List Value)) (name : Name) (tables : List Table) → list_any (is_same_name name) (table_names tables) ≡ false
    → filter (stays name) (map (table_object rows_at) tables) ≡ map (table_object rows_at) tables
tables_stay rows_at name tables none = none_go name (map (table_object rows_at) tables) (go tables none)
  where
    go : (tables : List Table) → list_any (is_same_name name) (table_names tables) ≡ false → list_any (goes_with name) (map (table_object rows_at) tables) ≡ false
    go [] none = refl
    go (t ∷ ts) none =
        let both = neither (is_same_name name t.name) (list_any (is_same_name name) (table_names ts)) none in
        ap (λ b. b || list_any (goes_with name) (map (table_object rows_at) ts)) both.0 ∙ go ts both.1

-- tables of other names are not without themselves
none_without : (name : Name) (tables : List Table) → list_any (is_same_name name) (table_names tables) ≡ false → without_table name tables ≡ tables
none_without name [] none = refl
none_without name (t ∷ ts) none =
    let both = neither (is_same_name name t.name) (list_any (is_same_name name) (table_names ts)) none in
    ap (λ b. cond (not b) (t ∷ without_table name ts) (without_table name ts)) (other_name name t.name both.0) ∙ ap (λ us. t ∷ us) (none_without name ts both.1)

-- indexes of other names, on tables of other names, stay
pub indexes_stay : (name : Name) (tables : List Table) → list_any (is_same_name name) (table_names tables) ≡ false → list_any (is_same_name name) (index_names_of tables) ≡ false
    → filter (stays name) (flat_map index_objects tables) ≡ flat_map index_objects tables
indexes_stay name tables none no_index =
    indexes_left name tables (none_among name name tables (tells (folded name) (folded name) refl) no_index) ∙ ap (flat_map index_objects) (none_without name tables none)

-- triggers of other tables and views are not without themselves
pub none_elsewhere : (name : Name) (triggers : List Trigger) → list_any (is_on name) triggers ≡ false → without_triggers_on name triggers ≡ triggers
none_elsewhere name [] none = refl
none_elsewhere name (t ∷ ts) none =
    let both = neither (is_on name t) (list_any (is_on name) ts) none in
    ap (λ b. cond (not b) (t ∷ without_triggers_on name ts) (without_triggers_on name ts)) both.0 ∙ ap (λ us. t ∷ us) (none_elsewhere name ts both.1)

-- views, and triggers of others, stay
treeless_stay : (name : Name) (l : Listed) → list_any (is_same_name name) (treeless_names l) ≡ false → list_any (is_on name) l.triggers ≡ false → filter (stays name) (treeless_objects l) ≡ treeless_objects l
treeless_stay name l none no_on = treeless_left name l none ∙ ap (λ ts. map view_object l.views ++ map trigger_object ts) (none_elsewhere name l.triggers no_on)

module _ (rows_at : ℕ → List (ℤ × List Value)) (name : Name) (l : Listed) (before : List Table) (t : Table) (after : List Table) (some : has_index name t ≡ true) (no_on : list_any (is_on name) l.triggers ≡ false)
    (once : any_twice is_same_name (names_of (split_in l before t after)) ≡ false) where
  abbrev front : List (Name × Object)
  front = map (table_object rows_at) (before ++ t ∷ after)

  abbrev seen : List (Name × Object)
  seen = treeless_objects l

  abbrev back : List (Name × Object)
  back = flat_map index_objects after

  own_some : list_any (is_name name) (map (λ (i : ListedIndex). i.name) t.indexes) ≡ true
  own_some = sym (named_index name t.indexes) ∙ some

  parts : index_names_of (before ++ t ∷ after) ≡ index_names_of before ++ (map (λ (i : ListedIndex). i.name) t.indexes ++ index_names_of after)
  parts = flat_map-append (λ (t : Table). map (λ (i : ListedIndex). i.name) t.indexes) before (t ∷ after)

  behind_once : any_twice is_same_name (treeless_names l ++ index_names_of (before ++ t ∷ after)) ≡ false
  behind_once = once_second (table_names (before ++ t ∷ after)) (treeless_names l ++ index_names_of (before ++ t ∷ after)) once

  indexes_once : any_twice is_same_name (index_names_of before ++ (map (λ (i : ListedIndex). i.name) t.indexes ++ index_names_of after)) ≡ false
  indexes_once = ap (any_twice is_same_name) (sym parts) ∙ once_second (treeless_names l) (index_names_of (before ++ t ∷ after)) behind_once

  here : list_any (is_name name) (map (λ (i : ListedIndex). i.name) t.indexes ++ index_names_of after) ≡ true
  here = some_first (is_name name) (map (λ (i : ListedIndex). i.name) t.indexes) (index_names_of after) own_some

  among_indexes : list_any (is_name name) (index_names_of (before ++ t ∷ after)) ≡ true
  among_indexes = ap (list_any (is_name name)) parts ∙ some_second (is_name name) (index_names_of before) (map (λ (i : ListedIndex). i.name) t.indexes ++ index_names_of after) here

  no_table : list_any (is_same_name name) (table_names (before ++ t ∷ after)) ≡ false
  no_table = none_before name (table_names (before ++ t ∷ after)) (treeless_names l ++ index_names_of (before ++ t ∷ after)) once
      (some_second (is_name name) (treeless_names l) (index_names_of (before ++ t ∷ after)) among_indexes)

  no_tables : (list_any (is_same_name name) (table_names before) ≡ false) × (list_any (is_same_name name) (table_names (t ∷ after)) ≡ false)
  no_tables = first_part (is_same_name name) (table_names before) (table_names (t ∷ after)) (ap (list_any (is_same_name name)) (sym (map-append (λ (t : Table). t.name) before (t ∷ after))) ∙ no_table)

  apart : (is_same_name name t.name ≡ false) × (list_any (is_same_name name) (table_names after) ≡ false)
  apart = neither (is_same_name name t.name) (list_any (is_same_name name) (table_names after)) no_tables.1

  all_tables_stay : filter (stays name) front ≡ front
  all_tables_stay = tables_stay rows_at name (before ++ t ∷ after) no_table

  views_stay : filter (stays name) seen ≡ seen
  views_stay = treeless_stay name l (none_before name (treeless_names l) (index_names_of (before ++ t ∷ after)) behind_once among_indexes) no_on

  before_stay : filter (stays name) (flat_map index_objects before) ≡ flat_map index_objects before
  before_stay = indexes_stay name before no_tables.0 (none_before name (index_names_of before) (map (λ (i : ListedIndex). i.name) t.indexes ++ index_names_of after) indexes_once here)

  after_stay : filter (stays name) back ≡ back
  after_stay = indexes_stay name after apart.1 (none_behind name (map (λ (i : ListedIndex). i.name) t.indexes) (index_names_of after)
      (once_second (index_names_of before) (map (λ (i : ListedIndex). i.name) t.indexes ++ index_names_of after) indexes_once) own_some)

  objects_less : filter (stays name) (objects_of rows_at (split_in l before t after)) ≡ objects_of rows_at (split_in l before (without_index name t) after)
  objects_less =
      ap (filter (stays name)) (objects_split rows_at l before t after)
      ∙ (filter-append (stays name) (listed_before rows_at l before t after) back
      ∙ (ap (λ os. filter (stays name) (listed_before rows_at l before t after) ++ os) after_stay
      ∙ (ap (λ os. os ++ back) (filter-append (stays name) front (seen ++ (flat_map index_objects before ++ index_objects t)))
      ∙ (ap (λ os. (os ++ filter (stays name) (seen ++ (flat_map index_objects before ++ index_objects t))) ++ back) all_tables_stay
      ∙ (ap (λ os. (front ++ os) ++ back) (filter-append (stays name) seen (flat_map index_objects before ++ index_objects t))
      ∙ (ap (λ os. (front ++ (os ++ filter (stays name) (flat_map index_objects before ++ index_objects t))) ++ back) views_stay
      ∙ (ap (λ os. (front ++ (seen ++ os)) ++ back) (filter-append (stays name) (flat_map index_objects before) (index_objects t))
      ∙ (ap (λ os. (front ++ (seen ++ (os ++ filter (stays name) (index_objects t)))) ++ back) before_stay
      ∙ (ap (λ os. (front ++ (seen ++ (flat_map index_objects before ++ os))) ++ back) (others_stay name t t.indexes apart.0)
      ∙ (ap (λ os. (os ++ (seen ++ (flat_map index_objects before ++ index_objects (without_index name t)))) ++ back) (sym (same_tables rows_at before t (without_index name t).indexes after))
      ∙ sym (objects_split rows_at l before (without_index name t) after)))))))))))

pub lists_other_indexes : ListsOtherIndexes
lists_other_indexes rows_at l db name t is found no_on =
    as_listed rows_at (replacing (without_index name t) l) (without name db) (filter (stays name) (objects_of rows_at l)) left (less name (objects_of rows_at l) db (as_objects rows_at l db is))
  where
    names_once : any_twice is_same_name (names_of l) ≡ false
    names_once = is_no (any_twice is_same_name (names_of l)) is.once

    split : IsSplit t l.tables
    split = split_at (has_index name) l.tables t (once_first (table_names l.tables) _ names_once) found

    left : filter (stays name) (objects_of rows_at l) ≡ objects_of rows_at (replacing (without_index name t) l)
    left =
        ap (λ (ts : List Table). filter (stays name) (objects_of rows_at (record l { tables = ts }))) split.parts
        ∙ (objects_less rows_at name l split.before t split.after (found_holds (has_index name) l.tables t found) no_on
        (subst (λ (ts : List Table). any_twice is_same_name (names_of (record l { tables = ts })) ≡ false) split.parts names_once)
        ∙ ap (λ (ts : List Table). objects_of rows_at (record l { tables = ts })) (sym (split.replaced (without_index name t) refl)))
