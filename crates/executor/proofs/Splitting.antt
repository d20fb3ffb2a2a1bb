-- A named item of a list: those before it and after it, and the list without it.
use Rattle.std.proofs.Common.{◌≡◌, refl, sym, ap, subst, ◌∙◌, Bool, true, false, not, ◌||◌, cond, filter, map, List, [], ◌∷◌, ◌++◌, None, Some}
use Rattle.std.specs.List.{find, list_any}
use Rattle.sqlval.specs.Lists.{any_twice}
use Rattle.sqlval.specs.Names.{folded, is_same_name}
use Rattle.std.specs.Prelude.{bytes_eq, flat_map}
use Rattle.catalog.specs.Database.{Name}
use Rattle.catalog.specs.Listed.{Listed, are_named_once, is_table, names_of, table_named, treeless_names}
use Rattle.catalog.specs.declared.tables.Index.{Index}
use Rattle.catalog.specs.declared.tables.Table.{Table}
use Rattle.catalog.specs.declared.tables.Trigger.{Trigger}
use Rattle.catalog.specs.declared.tables.View.{View}
use Rattle.executor.proofs.FoundTables.{neither, no_no}
use Rattle.executor.proofs.Replacing.{once_first, once_last, other_way, same_folded, table_names, turned}

module _ {A : Type 0} (own : A → Name) where
  -- it goes where those of its name are left out
  pub record IsSplitOf (x : A) (xs : List A) : Type 0 where
    pub before : List A
    pub after : List A
    pub parts : xs ≡ before ++ x ∷ after
    pub without : (name : Name) → is_same_name (own x) name ≡ true → filter (λ y. not (is_same_name (own y) name)) xs ≡ before ++ after

  none_out : (name other : Name) (xs : List A) → is_same_name other name ≡ true → list_any (is_same_name other) (map own xs) ≡ false → filter (λ y. not (is_same_name (own y) name)) xs ≡ xs
  none_out name other [] is none = refl
  none_out name other (u ∷ us) is none =
      let both = neither (is_same_name other (own u)) (list_any (is_same_name other) (map own us)) none in
      ap (λ b. cond (not b) (u ∷ filter (λ y. not (is_same_name (own y) name)) us) (filter (λ y. not (is_same_name (own y) name)) us)) (other_way (own u) other name (turned other (own u) both.0) is)
      ∙ ap (λ (ys : List A). u ∷ ys) (none_out name other us is both.1)

  in_middle : (p : Name → Bool) (before : List A) (x : A) (after : List A) → list_any p (map own (before ++ x ∷ after)) ≡ false → p (own x) ≡ false
  in_middle p [] x after none = (neither (p (own x)) (list_any p (map own after)) none).0
  in_middle p (u ∷ before) x after none = in_middle p before x after (neither (p (own u)) (list_any p (map own (before ++ x ∷ after))) none).1

  same_item : (u x : A) → Some u ≡ Some x → u ≡ x
  same_item u x e = cc

  pub split_of : (p : A → Bool) (xs : List A) (x : A) → any_twice is_same_name (map own xs) ≡ false → find p xs ≡ Some x → IsSplitOf x xs
  split_of p [] x once found = absurd cc
  split_of p (u ∷ us) x once found =
      let both = neither (list_any (is_same_name (own u)) (map own us)) (any_twice is_same_name (map own us)) once in
      by_test both.0 (split_of p us x both.1) (p u) found
    where
      by_test : list_any (is_same_name (own u)) (map own us) ≡ false → (find p us ≡ Some x → IsSplitOf x us) → (b : Bool) → cond b (Some u) (find p us) ≡ Some x → IsSplitOf x (u ∷ us)
      by_test none later true found =
          let is : u ≡ x = same_item u x found in record {
            before = [];
            after = us;
            parts = ap (λ (y : A). y ∷ us) is;
            without = λ name named.
                (let mine : is_same_name (own u) name ≡ true = subst (λ (y : A). is_same_name (own y) name ≡ true) (sym is) named in
                ap (λ b. cond (not b) (u ∷ filter (λ y. not (is_same_name (own y) name)) us) (filter (λ y. not (is_same_name (own y) name)) us)) mine ∙ none_out name (own u) us mine none);
          }
      by_test none later false found =
          let rest = later found in
          let other : is_same_name (own u) (own x) ≡ false =
          in_middle (is_same_name (own u)) rest.before x rest.after (subst (λ (ys : List A). list_any (is_same_name (own u)) (map own ys) ≡ false) rest.parts none) in record {
            before = u ∷ rest.before;
            after = rest.after;
            parts = ap (λ (ys : List A). u ∷ ys) rest.parts;
            without = λ name named.
                ap (λ b. cond (not b) (u ∷ filter (λ y. not (is_same_name (own y) name)) us) (filter (λ y. not (is_same_name (own y) name)) us)) (other_way (own u) (own x) name other named)
                ∙ ap (λ (ys : List A). u ∷ ys) (rest.without name named);
          }

  -- an item that is found has the name
  pub has_it : (n : Name) (xs : List A) (x : A) → find (λ y. is_same_name (own y) n) xs ≡ Some x → list_any (is_same_name n) (map own xs) ≡ false → ⊥
  has_it n [] x found none = absurd cc
  has_it n (u ∷ us) x found none =
      let both = neither (is_same_name n (own u)) (list_any (is_same_name n) (map own us)) none in
      by_test (is_same_name (own u) n) (turned n (own u) both.0) (λ later. has_it n us x later both.1) found
    where
      by_test : (b : Bool) → b ≡ false → (find (λ y. is_same_name (own y) n) us ≡ Some x → ⊥) → cond b (Some u) (find (λ y. is_same_name (own y) n) us) ≡ Some x → ⊥
      by_test true other later found = absurd cc
      by_test false other later found = later found

-- ---- names that stand in two lists

pub first_none : (p : Name → Bool) (xs ys : List Name) → list_any p (xs ++ ys) ≡ false → list_any p xs ≡ false
first_none p [] ys none = refl
first_none p (x ∷ xs) ys none = let both = neither (p x) (list_any p (xs ++ ys)) none in ap (λ b. b || list_any p xs) both.0 ∙ first_none p xs ys both.1

pub last_none : (p : Name → Bool) (xs ys : List Name) → list_any p (xs ++ ys) ≡ false → list_any p ys ≡ false
last_none p [] ys none = none
last_none p (x ∷ xs) ys none = last_none p xs ys (neither (p x) (list_any p (xs ++ ys)) none).1

-- ---- the names of views and triggers

abbrev pub view_names : List View → List Name
view_names views = map (λ (v : View). v.definition.name) views

abbrev pub trigger_names : List Trigger → List Name
trigger_names triggers = map (λ (t : Trigger). t.definition.name) triggers

abbrev index_names : List Table → List Name
index_names tables = flat_map (λ (t : Table). map (λ (i : Index). i.name) t.indexes) tables

-- names that stand after those of the tables aren't that of a table
none_after : (n : Name) (tables : List Table) (ys : List Name) (t : Table) → any_twice is_same_name (table_names tables ++ ys) ≡ false → table_named n tables ≡ Some t → list_any (is_same_name n) ys ≡ false
none_after n [] ys t once found = absurd cc
none_after n (u ∷ us) ys t once found =
    let both = neither (list_any (is_same_name u.name) (table_names us ++ ys)) (any_twice is_same_name (table_names us ++ ys)) once in
    by_test (is_table n u) refl (last_none (is_same_name u.name) (table_names us) ys both.0) (none_after n us ys t both.1) found
  where
    by_test : (b : Bool) → is_table n u ≡ b → list_any (is_same_name u.name) ys ≡ false → (table_named n us ≡ Some t → list_any (is_same_name n) ys ≡ false) → cond b (Some u) (table_named n us) ≡ Some t
        → list_any (is_same_name n) ys ≡ false
    by_test true is none later found = ap (λ own. list_any (λ y. bytes_eq own (folded y)) ys) (sym (same_folded u.name n is)) ∙ none
    by_test false is none later found = later found

module _ (l : Listed) (once : are_named_once l ≡ true) where
  -- of views and triggers no two have one name
  pub treeless_once : any_twice is_same_name (treeless_names l) ≡ false
  treeless_once = once_first (treeless_names l) (index_names l.tables) (once_last (table_names l.tables) (treeless_names l ++ index_names l.tables) (no_no (any_twice is_same_name (names_of l)) once))

  -- and none has that of a table
  pub none_treeless : (n : Name) (t : Table) → table_named n l.tables ≡ Some t → list_any (is_same_name n) (treeless_names l) ≡ false
  none_treeless n t found =
      first_none (is_same_name n) (treeless_names l) (index_names l.tables)
      (none_after n l.tables (treeless_names l ++ index_names l.tables) t (no_no (any_twice is_same_name (names_of l)) once) found)

  -- nor has a trigger that of a view
  pub none_seen : (n : Name) (v : View) → find (λ (u : View). is_same_name u.definition.name n) l.views ≡ Some v → list_any (is_same_name n) (trigger_names l.triggers) ≡ false
  none_seen n v found = behind n l.views v treeless_once found
    where
      behind : (n : Name) (views : List View) (v : View) → any_twice is_same_name (view_names views ++ trigger_names l.triggers) ≡ false → find (λ (u : View). is_same_name u.definition.name n) views ≡ Some v
          → list_any (is_same_name n) (trigger_names l.triggers) ≡ false
      behind n [] v once found = absurd cc
      behind n (u ∷ us) v once found =
          let both = neither (list_any (is_same_name u.definition.name) (view_names us ++ trigger_names l.triggers)) (any_twice is_same_name (view_names us ++ trigger_names l.triggers)) once in
          by_test (is_same_name u.definition.name n) refl (last_none (is_same_name u.definition.name) (view_names us) (trigger_names l.triggers) both.0) (behind n us v both.1) found
        where
          by_test : (b : Bool) → is_same_name u.definition.name n ≡ b → list_any (is_same_name u.definition.name) (trigger_names l.triggers) ≡ false
              → (find (λ (u : View). is_same_name u.definition.name n) us ≡ Some v → list_any (is_same_name n) (trigger_names l.triggers) ≡ false)
              → cond b (Some u) (find (λ (u : View). is_same_name u.definition.name n) us) ≡ Some v → list_any (is_same_name n) (trigger_names l.triggers) ≡ false
          by_test true is none later found = ap (λ own. list_any (λ y. bytes_eq own (folded y)) (trigger_names l.triggers)) (sym (same_folded u.definition.name n is)) ∙ none
          by_test false is none later found = later found
