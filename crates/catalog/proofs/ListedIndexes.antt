-- The indexes of a table, in the database and in the list.
use Rattle.std.proofs.Common.{◌≡◌, refl, sym, ap, ◌∙◌, ℕ, ℤ, Bool, true, false, List, [], ◌∷◌, ◌++◌, map, Option, Some, None, cond}
use Rattle.std.proofs.lemmas.Bool.{false≢true}
use Rattle.std.proofs.lemmas.Cmp.{nat_list_cmp_total}
use Rattle.std.proofs.lemmas.List.Folds.{list_any-append}
use Rattle.std.specs.FinMap.Entries.{put, find, find-put, by_order}
use Rattle.std.specs.List as list
use Rattle.std.specs.List.{cons_option, filter_map, list_any}
use Rattle.std.specs.Ordering.{eq_by_cmp, is_eq}
use Rattle.std.specs.Prelude.{◌&&◌, ◌||◌, flat_map, option_map}
use Rattle.std.specs.declared.cmp.Ordering.{Ordering}
use Rattle.std.specs.declared.cmp.Ordering.TheVariants.{Less, Equal, Greater}
use Rattle.sqlval.specs.Lists.{any_twice}
use Rattle.sqlval.specs.Names.{folded, is_same_name}
use Rattle.sqlval.specs.declared.value.Value.{Value}
use Rattle.catalog.specs.Database.{Name, Database, Object, ATable, AnIndex, AView, ATrigger, Index, indexes_of, name_order, object, with_object}
use Rattle.catalog.specs.Listed.{as_index, index_objects, is_table, named_among, names_of, objects_of, table_named, table_object, treeless_names, treeless_objects, trigger_object, view_object}
use Rattle.catalog.specs.Named.{IsNamed, ListsIndexes}
use Rattle.catalog.specs.declared.tables.Index.{Index as ListedIndex}
use Rattle.catalog.specs.declared.tables.Table.{Table}
use Rattle.catalog.specs.declared.tables.Trigger.{Trigger}
use Rattle.catalog.specs.declared.tables.View.{View}
use Rattle.catalog.proofs.Dropped.{is_no, joined, names_are, neither, other_name}
use Rattle.catalog.proofs.NamedDatabases.{folded_twice, keeps_named, one_database, same_test}

-- ---- the database that some objects of different names make

abbrev pub made : List (Name × Object) → Database
made [] = []
made (o ∷ os) = with_object (made os) o.0 o.1

pub made_named : (os : List (Name × Object)) → IsNamed (made os)
made_named [] = record { rising = refl; each_folded = tt }
made_named (o ∷ os) = keeps_named (made os) o.0 o.1 (made_named os)

pub made_finds : (os : List (Name × Object)) (name : Name) → object (made os) name ≡ named_among name os
made_finds [] name = refl
made_finds (o ∷ os) name =
    find-put name_order nat_list_cmp_total (folded name) (folded o.0) o.1 (made os)
    ∙ (ap (λ b. cond b (Some o.1) (object (made os) name)) (same_test (folded name) (folded o.0))
    ∙ (ap (cond (is_same_name o.0 name) (Some o.1)) (made_finds os name) ∙ by_test (is_same_name o.0 name)))
  where
    by_test : (b : Bool) → cond b (Some o.1) (named_among name os) ≡ option_map (λ (x : Name × Object). x.1) (cond b (Some o) (list.find (λ (x : Name × Object). is_same_name x.0 name) os))
    by_test true = refl
    by_test false = refl

-- ---- a test of all objects

module _ (q : Object → Bool) where
  abbrev pub any_of : List (Name × Object) → Bool
  any_of os = list_any (λ o. q o.1) os

  -- a new name is one more
  any_put : (k : Name) (o : Object) (db : Database) → find name_order k db ≡ None → any_of (put name_order k o db) ≡ q o || any_of db
  any_put k o [] none = refl
  any_put k o (e ∷ es) none = by (name_order k e.0) refl (any_put k o es) where
    after : (b : Bool) → cond b (Some e.1) (find name_order k es) ≡ None → (b ≡ false) × (find name_order k es ≡ None)
    after true h = absurd cc
    after false h = (refl, h)

    swapped : (a b c : Bool) → b || (a || c) ≡ a || (b || c)
    swapped true true c = refl
    swapped true false c = refl
    swapped false b c = refl

    by : (r : Ordering) → name_order k e.0 ≡ r → (find name_order k es ≡ None → any_of (put name_order k o es) ≡ q o || any_of es)
        → any_of (by_order r ((k, o) ∷ e ∷ es) ((e.0, o) ∷ es) (e ∷ put name_order k o es)) ≡ q o || (q e.1 || any_of es)
    by Less is rest = refl
    by Equal is rest = absurd (false≢true (sym (after (eq_by_cmp name_order k e.0) none).0 ∙ ap is_eq is))
    by Greater is rest = ap (λ b. q e.1 || b) (rest (after (eq_by_cmp name_order k e.0) none).1) ∙ swapped (q o) (q e.1) (any_of es)

  none_named : (name : Name) (os : List (Name × Object)) → list_any (is_same_name name) (map (λ o. o.0) os) ≡ false → named_among name os ≡ None
  none_named name [] h = refl
  none_named name (o ∷ os) h =
      let parts = neither (is_same_name name o.0) (list_any (is_same_name name) (map (λ o. o.0) os)) h in
      ap (λ b. option_map (λ (x : Name × Object). x.1) (cond b (Some o) (list.find (λ (x : Name × Object). is_same_name x.0 name) os))) (other_name name o.0 parts.0)
      ∙ none_named name os parts.1

  pub any_made : (os : List (Name × Object)) → any_twice is_same_name (map (λ o. o.0) os) ≡ false → any_of (made os) ≡ any_of os
  any_made [] once = refl
  any_made (o ∷ os) once =
      let parts = neither (list_any (is_same_name o.0) (map (λ o. o.0) os)) (any_twice is_same_name (map (λ o. o.0) os)) once in
      any_put (folded o.0) o.1 (made os) (made_finds os o.0 ∙ none_named o.0 os parts.0) ∙ ap (λ b. q o.1 || b) (any_made os parts.1)

-- ---- the indexes of a name

-- a test of an index of this table
abbrev on : Name → (Index → Bool) → Object → Bool
on name p (AnIndex i) = is_same_name i.table name && p i
on name p _ = false

any_on : (name : Name) (p : Index → Bool) (db : Database) → list_any (λ i. p i.1) (indexes_of db name) ≡ list_any (λ o. on name p o.1) db
any_on name p [] = refl
any_on name p ((k, ATable t) ∷ es) = any_on name p es
any_on name p ((k, AView v) ∷ es) = any_on name p es
any_on name p ((k, ATrigger t) ∷ es) = any_on name p es
any_on name p ((k, AnIndex i) ∷ es) = by (is_same_name i.table name) (any_on name p es) where
  by : (b : Bool) → list_any (λ (j : Name × Index). p j.1) (indexes_of es name) ≡ list_any (λ (o : Name × Object). on name p o.1) es
      → list_any (λ (j : Name × Index). p j.1) (cons_option (cond b (Some (k, i)) None) (indexes_of es name)) ≡ (b && p i) || list_any (λ (o : Name × Object). on name p o.1) es
  by true rest = ap (λ b. p i || b) rest
  by false rest = rest

-- ---- those that are listed

module _ (rows_at : ℕ → List (ℤ × List Value)) (name : Name) (p : Index → Bool) where
  no_tables : (tables : List Table) → list_any (λ o. on name p o.1) (map (table_object rows_at) tables) ≡ false
  no_tables [] = refl
  no_tables (t ∷ ts) = no_tables ts

  no_views : (views : List View) → list_any (λ o. on name p o.1) (map view_object views) ≡ false
  no_views [] = refl
  no_views (v ∷ vs) = no_views vs

  no_triggers : (triggers : List Trigger) → list_any (λ o. on name p o.1) (map trigger_object triggers) ≡ false
  no_triggers [] = refl
  no_triggers (t ∷ ts) = no_triggers ts

  of_indexes : (t : Table) (is : List ListedIndex) (os : List (Name × Object))
      → list_any (λ o. on name p o.1) (map (λ (i : ListedIndex). (i.name, AnIndex (as_index t i))) is ++ os)
      ≡ (is_same_name (folded t.name) name && list_any (λ i. p (as_index t i)) is) || list_any (λ o. on name p o.1) os
  of_indexes t [] os = nothing (is_same_name (folded t.name) name) where
    nothing : (b : Bool) → list_any (λ o. on name p o.1) os ≡ (b && false) || list_any (λ o. on name p o.1) os
    nothing true = refl
    nothing false = refl
  of_indexes t (i ∷ is) os = by (is_same_name (folded t.name) name) (of_indexes t is os) where
    assoc : (a b c : Bool) → a || (b || c) ≡ (a || b) || c
    assoc true b c = refl
    assoc false b c = refl

    by : (b : Bool) → list_any (λ o. on name p o.1) (map (λ (i : ListedIndex). (i.name, AnIndex (as_index t i))) is ++ os)
        ≡ (b && list_any (λ i. p (as_index t i)) is) || list_any (λ o. on name p o.1) os
        → (b && p (as_index t i)) || list_any (λ o. on name p o.1) (map (λ (i : ListedIndex). (i.name, AnIndex (as_index t i))) is ++ os)
        ≡ (b && (p (as_index t i) || list_any (λ i. p (as_index t i)) is)) || list_any (λ o. on name p o.1) os
    by true rest = ap (λ c. p (as_index t i) || c) rest ∙ assoc (p (as_index t i)) (list_any (λ i. p (as_index t i)) is) (list_any (λ o. on name p o.1) os)
    by false rest = rest

  abbrev here : Table → Bool
  here t = is_same_name t.name name && list_any (λ i. p (as_index t i)) t.indexes

  of_tables : (tables : List Table) → list_any (λ o. on name p o.1) (flat_map index_objects tables) ≡ list_any here tables
  of_tables [] = refl
  of_tables (t ∷ ts) =
      of_indexes t t.indexes (flat_map index_objects ts)
      ∙ ap (λ b. (b && list_any (λ i. p (as_index t i)) t.indexes) || list_any (λ o. on name p o.1) (flat_map index_objects ts)) (same t.name)
      ∙ ap (λ b. here t || b) (of_tables ts)
    where
      same : (a : Name) → is_same_name (folded a) name ≡ is_same_name a name
      same a = ap (λ f. Rattle.std.specs.Str.bytes_eq f (folded name)) (folded_twice a)

  -- no other table has the name
  others : (t : Table) (ts : List Table) → is_same_name t.name name ≡ true → list_any (is_same_name t.name) (map (λ t. t.name) ts) ≡ false → list_any here ts ≡ false
  others t [] is none = refl
  others t (u ∷ us) is none =
      let parts = neither (is_same_name t.name u.name) (list_any (is_same_name t.name) (map (λ t. t.name) us)) none in
      ap (λ b. (b && list_any (λ i. p (as_index u i)) u.indexes) || list_any here us) (apart (is_same_name u.name name) refl parts.0) ∙ others t us is parts.1
    where
      apart : (b : Bool) → is_same_name u.name name ≡ b → is_same_name t.name u.name ≡ false → is_same_name u.name name ≡ false
      apart true e other = absurd (false≢true (sym other ∙ joined t.name name u.name is e))
      apart false e other = e

  found_alone : (tables : List Table) (rest : List Name) (t : Table) → any_twice is_same_name (map (λ t. t.name) tables ++ rest) ≡ false → table_named name tables ≡ Some t
      → list_any here tables ≡ list_any (λ i. p (as_index t i)) t.indexes
  found_alone [] rest t once found = absurd cc
  found_alone (u ∷ us) rest t once found = by (is_table name u) refl found (λ same. found_alone us rest t (neither (list_any (is_same_name u.name) (map (λ t. t.name) us ++ rest)) (any_twice is_same_name (map (λ t. t.name) us ++ rest)) once).1 same) where
    parts : (list_any (is_same_name u.name) (map (λ t. t.name) us ++ rest) ≡ false) × (any_twice is_same_name (map (λ t. t.name) us ++ rest) ≡ false)
    parts = neither (list_any (is_same_name u.name) (map (λ t. t.name) us ++ rest)) (any_twice is_same_name (map (λ t. t.name) us ++ rest)) once

    none : list_any (is_same_name u.name) (map (λ t. t.name) us) ≡ false
    none = (neither (list_any (is_same_name u.name) (map (λ t. t.name) us)) (list_any (is_same_name u.name) rest)
        (sym (list_any-append (is_same_name u.name) (map (λ t. t.name) us) rest) ∙ parts.0)).0

    or_false : (b : Bool) → b || false ≡ b
    or_false true = refl
    or_false false = refl

    by : (b : Bool) → is_table name u ≡ b → cond b (Some u) (table_named name us) ≡ Some t → (table_named name us ≡ Some t → list_any here us ≡ list_any (λ i. p (as_index t i)) t.indexes)
        → list_any here (u ∷ us) ≡ list_any (λ i. p (as_index t i)) t.indexes
    by true e same more =
        ap (λ b. (b && list_any (λ i. p (as_index u i)) u.indexes) || list_any here us) e ∙ ap (λ b. list_any (λ i. p (as_index u i)) u.indexes || b) (others u us e none)
        ∙ or_false (list_any (λ i. p (as_index u i)) u.indexes) ∙ ap (λ (x : Table). list_any (λ i. p (as_index x i)) x.indexes) (the_same u t same)
      where
        the_same : (x y : Table) → ◌≡◌ {A = Option Table} (Some x) (Some y) → x ≡ y
        the_same x y e = cc
    by false e same more = ap (λ b. (b && list_any (λ i. p (as_index u i)) u.indexes) || list_any here us) e ∙ more same

pub lists_indexes : ListsIndexes
lists_indexes rows_at l db name t p of found =
    let once : any_twice is_same_name (names_of l) ≡ false = is_no (any_twice is_same_name (names_of l)) of.once in
    let objects = objects_of rows_at l in
    let same : db ≡ made objects = one_database db (made objects) of.named (made_named objects) (λ other. of.lists other ∙ sym (made_finds objects other)) in
    any_on name p db
    ∙ ap (list_any (λ (o : Name × Object). on name p o.1)) same
    ∙ any_made (on name p) objects (ap (any_twice is_same_name) (names_are rows_at l) ∙ once)
    ∙ list_any-append (λ (o : Name × Object). on name p o.1) (map (table_object rows_at) l.tables) (treeless_objects l ++ flat_map index_objects l.tables)
    ∙ ap (λ b. b || list_any (λ (o : Name × Object). on name p o.1) (treeless_objects l ++ flat_map index_objects l.tables)) (no_tables rows_at name p l.tables)
    ∙ list_any-append (λ (o : Name × Object). on name p o.1) (treeless_objects l) (flat_map index_objects l.tables)
    ∙ ap (λ b. b || list_any (λ (o : Name × Object). on name p o.1) (flat_map index_objects l.tables)) no_treeless
    ∙ of_tables rows_at name p l.tables
    ∙ found_alone rows_at name p l.tables (treeless_names l ++ flat_map (λ (t : Table). map (λ (i : ListedIndex). i.name) t.indexes) l.tables) t once found
  where
    no_treeless : list_any (λ (o : Name × Object). on name p o.1) (treeless_objects l) ≡ false
    no_treeless =
        list_any-append (λ (o : Name × Object). on name p o.1) (map view_object l.views) (map trigger_object l.triggers)
        ∙ ap (λ b. b || list_any (λ (o : Name × Object). on name p o.1) (map trigger_object l.triggers)) (no_views rows_at name p l.views)
        ∙ no_triggers rows_at name p l.triggers
