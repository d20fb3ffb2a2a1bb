-- The automatic indexes of a table: those of the database are those that its keys ask for, where it lists these.
use Rattle.std.proofs.Common.{◌≡◌, ◌∙◌, refl, sym, ap, ap₂, subst, append-nil, append_assoc, ℕ, ℤ, Bool, true, false, ◌&&◌, ◌||◌, cond, filter, List, [], ◌∷◌, ◌++◌, map, Some}
use Rattle.std.specs.Prelude.{flat_map}
use Rattle.std.proofs.lemmas.Bool.{false≢true}
use Rattle.std.proofs.lemmas.List.Elements.{filter-append}
use Rattle.std.proofs.lemmas.List.Folds.{list_any-append}
use Rattle.std.specs.List.{AllByRecursion, list_any}
use Rattle.std.specs.Str.{bytes_eq}
use Rattle.sqlval.specs.Lists.{any_twice, sorted}
use Rattle.sqlval.specs.Names.{folded, is_same_name}
use Rattle.sqlval.specs.declared.value.Value.{Value}
use Rattle.catalog.specs.Database.{ATable, AnIndex, AView, ATrigger, Database, Name, Object, object}
use Rattle.catalog.specs.Listed.{Listed, as_index, index_objects, key_columns, named_among, names_of, objects_of, table_named, table_object, treeless_names, treeless_objects, trigger_object, view_object}
use Rattle.catalog.specs.Named.{IsNamed, IsOfListed}
use Rattle.catalog.specs.declared.tables.Index.{Index}
use Rattle.catalog.specs.declared.tables.Table.{Table}
use Rattle.catalog.specs.declared.tables.Trigger.{Trigger}
use Rattle.catalog.specs.declared.tables.View.{View}
use Rattle.catalog.proofs.NamedDatabases.{folded_twice, in_order, one_database}
use Rattle.db_files.specs.Schema.{automatic_indexes}
use Rattle.db_pages.specs.Schema.{HasKeyIndexes, automatic_objects, due_objects}
use Rattle.db_pages.proofs.KeptObjects.{found_kept, kept, named_kept, named_still, own_still, those}
use Rattle.db_pages.proofs.NamedObjects.{HaveOwnNames, built, built_finds, built_named, each_found, is_no, named_reordered, neither, objects_apart, same_named}
use Rattle.db_pages.proofs.Reordering.{is_reordered, reordered_sym, reordered_trans}
use Rattle.db_pages.proofs.SortedObjects.{HaveFoldedNames, built_is_sorted, by_name, due_folded, own_reordered, sorted_reordered}
use Rattle.db_pages.proofs.StoredApart.{other_name}
use Rattle.db_pages.proofs.StoredNames.{same_some, some_is_none}

-- ---- of a database

-- whether a table of this name made it
abbrev pub made_by : Name → Object → Bool
made_by table (ATable t) = false
made_by table (AnIndex i) = i.is_automatic && is_same_name i.table table
made_by table (AView v) = false
made_by table (ATrigger t) = false

-- the automatic indexes of a name are the objects that it made
kept_by : (table : Name) (es : Database) → automatic_indexes es table ≡ those (made_by table) es
kept_by table [] = refl
kept_by table ((name, ATable t) ∷ es) = kept_by table es
kept_by table ((name, AnIndex i) ∷ es) = ap (λ (ls : Database). cond (i.is_automatic && is_same_name i.table table) ((name, AnIndex i) ∷ ls) ls) (kept_by table es)
kept_by table ((name, AView v) ∷ es) = kept_by table es
kept_by table ((name, ATrigger t) ∷ es) = kept_by table es

-- ---- of listed tables

abbrev table_names : List Table → List Name
table_names ts = map (λ (t : Table). t.name) ts

folded_name : (name other : Name) → is_same_name (folded name) other ≡ is_same_name name other
folded_name name other = ap (λ n. bytes_eq n (folded other)) (folded_twice name)

turned : (a b : Name) → is_same_name a b ≡ false → is_same_name b a ≡ false
turned a b other = other_name b a (λ same. false≢true (sym other ∙ same_named a b (sym same)))

module _ (t : Table) where
  -- an index under its name
  abbrev under_name : Table → Index → Name × Object
  under_name u i = (i.name, AnIndex (as_index u i))

  -- those that the table made, of objects
  abbrev mine : List (Name × Object) → List (Name × Object)
  mine os = those (made_by t.name) os

  -- of the indexes of a table of its name, the automatic ones
  of_table : (u : Table) (is : List Index) → is_same_name (folded u.name) t.name ≡ true → mine (map (under_name u) is) ≡ map (under_name u) (filter (λ i. i.is_automatic) is)
  of_table u [] own = refl
  of_table u (i ∷ is) own =
      ap (λ b. cond (i.is_automatic && b) (under_name u i ∷ mine (map (under_name u) is)) (mine (map (under_name u) is))) own
      ∙ by_test i.is_automatic (of_table u is own)
    where
      by_test : (b : Bool) → mine (map (under_name u) is) ≡ map (under_name u) (filter (λ i. i.is_automatic) is)
          → cond (b && true) (under_name u i ∷ mine (map (under_name u) is)) (mine (map (under_name u) is))
          ≡ map (under_name u) (cond b (i ∷ filter (λ i. i.is_automatic) is) (filter (λ i. i.is_automatic) is))
      by_test true rest = ap (λ ls. under_name u i ∷ ls) rest
      by_test false rest = rest

  -- and of another table's, none
  of_other : (u : Table) (is : List Index) → is_same_name (folded u.name) t.name ≡ false → mine (map (under_name u) is) ≡ []
  of_other u [] other = refl
  of_other u (i ∷ is) other =
      ap (λ b. cond (i.is_automatic && b) (under_name u i ∷ mine (map (under_name u) is)) (mine (map (under_name u) is))) other
      ∙ by_test i.is_automatic (of_other u is other)
    where
      by_test : (b : Bool) → mine (map (under_name u) is) ≡ [] → cond (b && false) (under_name u i ∷ mine (map (under_name u) is)) (mine (map (under_name u) is)) ≡ []
      by_test true rest = rest
      by_test false rest = rest

  none_of : (us : List Table) → list_any (is_same_name t.name) (table_names us) ≡ false → mine (flat_map index_objects us) ≡ []
  none_of [] none = refl
  none_of (u ∷ us) none =
      let apart = neither (is_same_name t.name u.name) (list_any (is_same_name t.name) (table_names us)) none in
      filter-append (λ (o : Name × Object). made_by t.name o.1) (index_objects u) (flat_map index_objects us)
      ∙ (ap (λ ls. ls ++ mine (flat_map index_objects us)) (of_other u u.indexes (folded_name u.name t.name ∙ turned t.name u.name apart.0))
      ∙ none_of us apart.1)

  -- of the indexes of tables of different names they are the table's own
  of_tables : (us : List Table) → any_twice is_same_name (table_names us) ≡ false → table_named t.name us ≡ Some t → mine (flat_map index_objects us) ≡ automatic_objects t
  of_tables [] once found = some_is_none t (sym found)
  of_tables (u ∷ us) once found =
      let apart = neither (list_any (is_same_name u.name) (table_names us)) (any_twice is_same_name (table_names us)) once in
      filter-append (λ (o : Name × Object). made_by t.name o.1) (index_objects u) (flat_map index_objects us)
      ∙ by_test apart.0 (of_tables us apart.1) (is_same_name u.name t.name) refl found
    where
      by_test : list_any (is_same_name u.name) (table_names us) ≡ false → (table_named t.name us ≡ Some t → mine (flat_map index_objects us) ≡ automatic_objects t)
          → (b : Bool) → is_same_name u.name t.name ≡ b → cond b (Some u) (table_named t.name us) ≡ Some t → mine (index_objects u) ++ mine (flat_map index_objects us) ≡ automatic_objects t
      by_test none rest true is found =
          let same : u ≡ t = same_some u t found in
          ap₂ (λ (os ps : List (Name × Object)). os ++ ps) (of_table u u.indexes (folded_name u.name t.name ∙ is))
          (none_of us (subst (λ (v : Table). list_any (is_same_name v.name) (table_names us) ≡ false) same none))
          ∙ (append-nil (automatic_objects u) ∙ ap automatic_objects same)
      by_test none rest false is found = ap (λ ls. ls ++ mine (flat_map index_objects us)) (of_other u u.indexes (folded_name u.name t.name ∙ is)) ∙ rest found

  -- no table is an automatic index
  behind_tables : (rows_at : ℕ → List (ℤ × List Value)) (us : List Table) (os : List (Name × Object)) → mine (map (table_object rows_at) us ++ os) ≡ mine os
  behind_tables rows_at [] os = refl
  behind_tables rows_at (u ∷ us) os = behind_tables rows_at us os

  -- and no view or trigger is one
  behind_views : (vs : List View) (os : List (Name × Object)) → mine (map view_object vs ++ os) ≡ mine os
  behind_views [] os = refl
  behind_views (v ∷ vs) os = behind_views vs os

  behind_triggers : (ts : List Trigger) (os : List (Name × Object)) → mine (map trigger_object ts ++ os) ≡ mine os
  behind_triggers [] os = refl
  behind_triggers (u ∷ us) os = behind_triggers us os

  behind_treeless : (l : Listed) (os : List (Name × Object)) → mine (treeless_objects l ++ os) ≡ mine os
  behind_treeless l os =
      ap mine (append_assoc (map view_object l.views) (map trigger_object l.triggers) os)
      ∙ (behind_views l.views (map trigger_object l.triggers ++ os) ∙ behind_triggers l.triggers os)

-- ---- tables by their names

-- names that are different among more names
no_table_twice : (names others : List Name) → any_twice is_same_name (names ++ others) ≡ false → any_twice is_same_name names ≡ false
no_table_twice [] others once = refl
no_table_twice (n ∷ names) others once =
    let apart = neither (list_any (is_same_name n) (names ++ others)) (any_twice is_same_name (names ++ others)) once in
    let here = neither (list_any (is_same_name n) names) (list_any (is_same_name n) others) (sym (list_any-append (is_same_name n) names others) ∙ apart.0) in
    ap (λ b. b || any_twice is_same_name names) here.0 ∙ no_table_twice names others apart.1

still_named : (u : Table) (all some : List Table) → list_any (is_same_name u.name) (table_names some) ≡ false → AllByRecursion (λ (v : Table). table_named v.name all ≡ Some v) some
    → AllByRecursion (λ (v : Table). table_named v.name (u ∷ all) ≡ Some v) some
still_named u all [] none each = tt
still_named u all (v ∷ some) none each =
    let apart = neither (is_same_name u.name v.name) (list_any (is_same_name u.name) (table_names some)) none in (
      ap (λ b. cond b (Some u) (table_named v.name all)) apart.0 ∙ each.0,
      still_named u all some apart.1 each.1,
    )

-- tables of different names are each found under its own
all_named : (ts : List Table) → any_twice is_same_name (table_names ts) ≡ false → AllByRecursion (λ (t : Table). table_named t.name ts ≡ Some t) ts
all_named [] once = tt
all_named (t ∷ ts) once =
    let apart = neither (list_any (is_same_name t.name) (table_names ts)) (any_twice is_same_name (table_names ts)) once in (
      ap (λ b. cond b (Some t) (table_named t.name ts)) (same_named t.name t.name refl),
      still_named t ts ts apart.0 (all_named ts apart.1),
    )

-- ---- one by one

-- what holds of each that a test keeps, as it is mapped
kept_each : {A B : Type 0} (p : A → Bool) (f : A → B) (P : B → Type 0) (xs : List A) → AllByRecursion P (map f (filter p xs)) → AllByRecursion (λ x. p x ≡ true → P (f x)) xs
kept_each p f P [] each = tt
kept_each p f P (x ∷ xs) each = by_test (kept_each p f P xs) (p x) refl each
  where
    by_test : (AllByRecursion P (map f (filter p xs)) → AllByRecursion (λ x. p x ≡ true → P (f x)) xs) → (b : Bool) → p x ≡ b → AllByRecursion P (map f (cond b (x ∷ filter p xs) (filter p xs)))
        → AllByRecursion (λ x. p x ≡ true → P (f x)) (x ∷ xs)
    by_test rest true is each = ((λ holds. each.0), rest each.1)
    by_test rest false is each = ((λ holds. absurd (false≢true (sym is ∙ holds))), rest each)

pub each_kept : {A B : Type 0} (p : A → Bool) (f : A → B) (P : B → Type 0) (xs : List A) → AllByRecursion (λ x. p x ≡ true → P (f x)) xs → AllByRecursion P (map f (filter p xs))
each_kept p f P [] each = tt
each_kept p f P (x ∷ xs) each = by_test (p x) refl (each_kept p f P xs each.1)
  where
    by_test : (b : Bool) → p x ≡ b → AllByRecursion P (map f (filter p xs)) → AllByRecursion P (map f (cond b (x ∷ filter p xs) (filter p xs)))
    by_test true is rest = (each.0 is, rest)
    by_test false is rest = rest

-- ---- of a listed database

module _ (rows_at : ℕ → List (ℤ × List Value)) (l : Listed) (db : Database) (of : IsOfListed rows_at l db) where
  abbrev all_objects : List (Name × Object)
  all_objects = objects_of rows_at l

  own : HaveOwnNames all_objects
  own = objects_apart rows_at l of.once

  once : any_twice is_same_name (table_names l.tables) ≡ false
  once =
      no_table_twice (table_names l.tables) (treeless_names l ++ flat_map (λ (t : Table). map (λ (i : Index). i.name) t.indexes) l.tables)
      (is_no (any_twice is_same_name (names_of l)) of.once)

  -- each table is found under its name
  pub each_named : AllByRecursion (λ (t : Table). table_named t.name l.tables ≡ Some t) l.tables
  each_named = all_named l.tables once

  module _ (t : Table) (found : table_named t.name l.tables ≡ Some t) where
    all_mine : those (made_by t.name) all_objects ≡ automatic_objects t
    all_mine =
        behind_tables t rows_at l.tables (treeless_objects l ++ flat_map index_objects l.tables)
        ∙ (behind_treeless t l (flat_map index_objects l.tables) ∙ of_tables t l.tables once found)

    pub own_automatic : HaveOwnNames (automatic_objects t)
    own_automatic = subst HaveOwnNames all_mine (own_still (made_by t.name) all_objects own)

    named_automatic : IsNamed (automatic_indexes db t.name)
    named_automatic = subst IsNamed (sym (kept_by t.name db)) (named_still (made_by t.name) db of.named)

    -- what a name finds among the automatic indexes of the database
    finds : (name : Name) → object (automatic_indexes db t.name) name ≡ named_among name (automatic_objects t)
    finds name =
        ap (λ (es : Database). object es name) (kept_by t.name db)
        ∙ (found_kept (made_by t.name) db (folded name) (in_order db of.named.rising)
        ∙ (ap (kept (made_by t.name)) (of.lists name)
        ∙ (sym (named_kept (made_by t.name) name all_objects own)
        ∙ ap (named_among name) all_mine)))

    sorted_are : (os : List (Name × Object)) → HaveOwnNames os → HaveFoldedNames os → ((name : Name) → named_among name os ≡ named_among name (automatic_objects t)) → sorted by_name os ≡ automatic_indexes db t.name
    sorted_are os own each same =
        sym (built_is_sorted os own each)
        ∙ one_database (built os) (automatic_indexes db t.name) (built_named os) named_automatic (λ name. built_finds os name ∙ (same name ∙ sym (finds name)))

    -- those that its keys ask for are the automatic indexes of the database, where they are listed with it
    pub due_are : HasKeyIndexes t → sorted by_name (due_objects t) ≡ automatic_indexes db t.name
    due_are has =
        sorted_are (due_objects t) (own_reordered (automatic_objects t) (due_objects t) has own_automatic) (due_folded t.name 1 (map key_columns t.keys))
        (λ name. sym (named_reordered name (automatic_objects t) (due_objects t) own_automatic has))

    -- and the other way about
    pub are_due : HaveFoldedNames (automatic_objects t) → sorted by_name (due_objects t) ≡ automatic_indexes db t.name → HasKeyIndexes t
    are_due each is =
        reordered_trans (automatic_objects t) (sorted by_name (automatic_objects t)) (due_objects t) (sorted_reordered by_name (automatic_objects t))
        (is_reordered (sorted by_name (due_objects t)) (sorted by_name (automatic_objects t)) (due_objects t)
        (is ∙ sym (sorted_are (automatic_objects t) own_automatic each (λ name. refl)))
        (reordered_sym (due_objects t) (sorted by_name (due_objects t)) (sorted_reordered by_name (due_objects t))))

    -- each of its automatic indexes is the one that a key asks for under its name
    pub each_due : HasKeyIndexes t → AllByRecursion (λ (i : Index). i.is_automatic ≡ true → named_among i.name (due_objects t) ≡ Some (AnIndex (as_index t i))) t.indexes
    each_due has =
        kept_each (λ (i : Index). i.is_automatic) (λ (i : Index). (i.name, AnIndex (as_index t i))) (λ (o : Name × Object). named_among o.0 (due_objects t) ≡ Some o.1) t.indexes
        (found_due (automatic_objects t) (each_found (automatic_objects t) own_automatic))
      where
        found_due : (some : List (Name × Object)) → AllByRecursion (λ (o : Name × Object). named_among o.0 (automatic_objects t) ≡ Some o.1) some
            → AllByRecursion (λ (o : Name × Object). named_among o.0 (due_objects t) ≡ Some o.1) some
        found_due [] each = tt
        found_due (o ∷ some) each = (sym (named_reordered o.0 (automatic_objects t) (due_objects t) own_automatic has) ∙ each.0, found_due some each.1)
