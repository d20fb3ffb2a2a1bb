-- The objects that a test keeps, of a database and of a list: a name finds the same among them.
use Rattle.std.proofs.Common.{◌≡◌, ◌∙◌, refl, sym, ap, Bool, true, false, ◌||◌, cond, filter, List, [], ◌∷◌, Option, Some, None}
use Rattle.std.specs.Prelude.{option_map}
use Rattle.std.proofs.lemmas.Map.Lookups.{exact_bytes}
use Rattle.std.proofs.lemmas.Map.Views.{tells_apart}
use Rattle.std.specs.FinMap.Entries.{below_all, find, is_sorted}
use Rattle.std.specs.List as list
use Rattle.std.specs.List.{AllByRecursion, list_any}
use Rattle.std.specs.Ordering.{eq_by_cmp, is_lt}
use Rattle.std.specs.Str.{bytes_eq}
use Rattle.sqlval.specs.Lists.{any_twice}
use Rattle.sqlval.specs.Names.{folded, is_same_name}
use Rattle.catalog.specs.Database.{Database, Name, Object, name_order}
use Rattle.catalog.specs.Listed.{named_among}
use Rattle.catalog.specs.Named.{IsNamed}
use Rattle.catalog.proofs.NamedDatabases.{in_order, not_below, rising}
use Rattle.db_pages.proofs.NamedObjects.{HaveOwnNames, named_same, neither, none_among, one_among, own_names}
use Rattle.db_pages.proofs.StoredNames.{both_true, first_of, second_of}

-- one name finds what another finds that is the same in letters of either case
pub named_alike : (a b : Name) (os : List (Name × Object)) → folded a ≡ folded b → named_among a os ≡ named_among b os
named_alike a b os same = ap (λ (n : Name). option_map (λ (o : Name × Object). o.1) (list.find (λ (o : Name × Object). bytes_eq (folded o.0) n) os)) same

module _ (p : Object → Bool) where
  -- those that the test keeps
  abbrev pub those : List (Name × Object) → List (Name × Object)
  those os = filter (λ (o : Name × Object). p o.1) os

  -- what is found, if the test keeps it
  abbrev pub kept : Option Object → Option Object
  kept None = None
  kept (Some o) = cond (p o) (Some o) None

  kept_so : (o : Object) → p o ≡ true → Some o ≡ kept (Some o)
  kept_so o holds = sym (ap (λ b. cond b (Some o) None) holds)

  left_out : (o : Object) → p o ≡ false → None ≡ kept (Some o)
  left_out o fails = sym (ap (λ b. cond b (Some o) None) fails)

  -- ---- of a database

  -- their names still rise
  below_still : (x : Name) (es : Database) → below_all name_order x es ≡ true → below_all name_order x (those es) ≡ true
  below_still x [] h = refl
  below_still x (e ∷ es) h = by_test (below_still x es (second_of (is_lt (name_order x e.0)) (below_all name_order x es) h)) (p e.1)
    where
      by_test : below_all name_order x (those es) ≡ true → (b : Bool) → below_all name_order x (cond b (e ∷ those es) (those es)) ≡ true
      by_test rest true = both_true (is_lt (name_order x e.0)) (below_all name_order x (those es)) (first_of (is_lt (name_order x e.0)) (below_all name_order x es) h) rest
      by_test rest false = rest

  sorted_still : (es : Database) → is_sorted name_order es ≡ true → is_sorted name_order (those es) ≡ true
  sorted_still [] h = refl
  sorted_still (e ∷ es) h =
      by_test (below_still e.0 es (first_of (below_all name_order e.0 es) (is_sorted name_order es) h))
      (sorted_still es (second_of (below_all name_order e.0 es) (is_sorted name_order es) h)) (p e.1)
    where
      by_test : below_all name_order e.0 (those es) ≡ true → is_sorted name_order (those es) ≡ true → (b : Bool) → is_sorted name_order (cond b (e ∷ those es) (those es)) ≡ true
      by_test below rest true = both_true (below_all name_order e.0 (those es)) (is_sorted name_order (those es)) below rest
      by_test below rest false = rest

  all_still : (P : Name × Object → Type 0) (os : List (Name × Object)) → AllByRecursion P os → AllByRecursion P (those os)
  all_still P [] all = tt
  all_still P (o ∷ os) all = by_test (all_still P os all.1) (p o.1)
    where
      by_test : AllByRecursion P (those os) → (b : Bool) → AllByRecursion P (cond b (o ∷ those os) (those os))
      by_test rest true = (all.0, rest)
      by_test rest false = rest

  -- their names rise, and each is folded
  pub named_still : (db : Database) → IsNamed db → IsNamed (those db)
  named_still db named = record {
    rising = rising (those db) (sorted_still db (in_order db named.rising));
    each_folded = all_still (λ (o : Name × Object). folded o.0 ≡ o.0) db named.each_folded;
  }

  -- a name of a database finds among them what it finds, if that is kept
  pub found_kept : (es : Database) (q : Name) → is_sorted name_order es ≡ true → find name_order q (those es) ≡ kept (find name_order q es)
  found_kept [] q rising = refl
  found_kept (e ∷ es) q rising =
      by_tests (found_kept es q (second_of (below_all name_order e.0 es) (is_sorted name_order es) rising)) (eq_by_cmp name_order q e.0) refl (p e.1) refl
    where
      no_more : eq_by_cmp name_order q e.0 ≡ true → find name_order q es ≡ None
      no_more is = ap (λ n. find name_order n es) (tells_apart exact_bytes q e.0 is) ∙ not_below es e.0 (first_of (below_all name_order e.0 es) (is_sorted name_order es) rising)

      by_tests : find name_order q (those es) ≡ kept (find name_order q es) → (b : Bool) → eq_by_cmp name_order q e.0 ≡ b → (c : Bool) → p e.1 ≡ c
          → find name_order q (cond c (e ∷ those es) (those es)) ≡ kept (cond b (Some e.1) (find name_order q es))
      by_tests rest true is true holds = ap (λ b. cond b (Some e.1) (find name_order q (those es))) is ∙ kept_so e.1 holds
      by_tests rest true is false fails = rest ∙ (ap kept (no_more is) ∙ left_out e.1 fails)
      by_tests rest false is true holds = ap (λ b. cond b (Some e.1) (find name_order q (those es))) is ∙ rest
      by_tests rest false is false fails = rest

  -- ---- of a list

  none_still : (name : Name) (os : List (Name × Object)) → list_any (is_same_name name) (own_names os) ≡ false → list_any (is_same_name name) (own_names (those os)) ≡ false
  none_still name [] none = refl
  none_still name (o ∷ os) none =
      let apart = neither (is_same_name name o.0) (list_any (is_same_name name) (own_names os)) none in by_test apart.0 (none_still name os apart.1) (p o.1)
    where
      by_test : is_same_name name o.0 ≡ false → list_any (is_same_name name) (own_names (those os)) ≡ false → (b : Bool)
          → list_any (is_same_name name) (own_names (cond b (o ∷ those os) (those os))) ≡ false
      by_test other rest true = ap (λ b. b || list_any (is_same_name name) (own_names (those os))) other ∙ rest
      by_test other rest false = rest

  -- no two of them have one name
  pub own_still : (os : List (Name × Object)) → HaveOwnNames os → HaveOwnNames (those os)
  own_still [] own = refl
  own_still (o ∷ os) own =
      let apart = neither (list_any (is_same_name o.0) (own_names os)) (any_twice is_same_name (own_names os)) own in by_test (none_still o.0 os apart.0) (own_still os apart.1) (p o.1)
    where
      by_test : list_any (is_same_name o.0) (own_names (those os)) ≡ false → HaveOwnNames (those os) → (b : Bool) → HaveOwnNames (cond b (o ∷ those os) (those os))
      by_test other rest true = ap (λ b. b || any_twice is_same_name (own_names (those os))) other ∙ rest
      by_test other rest false = rest

  -- and so does a name of a list
  pub named_kept : (name : Name) (os : List (Name × Object)) → HaveOwnNames os → named_among name (those os) ≡ kept (named_among name os)
  named_kept name [] own = refl
  named_kept name (o ∷ os) own =
      let apart = neither (list_any (is_same_name o.0) (own_names os)) (any_twice is_same_name (own_names os)) own in
      by_tests apart.0 (named_kept name os apart.1) (is_same_name o.0 name) refl (p o.1) refl ∙ ap kept (sym (one_among name o os))
    where
      no_more : list_any (is_same_name o.0) (own_names os) ≡ false → is_same_name o.0 name ≡ true → named_among name os ≡ None
      no_more none is = named_alike name o.0 os (sym (named_same o.0 name is)) ∙ none_among o.0 os none

      by_tests : list_any (is_same_name o.0) (own_names os) ≡ false → named_among name (those os) ≡ kept (named_among name os) → (b : Bool) → is_same_name o.0 name ≡ b → (c : Bool) → p o.1 ≡ c
          → named_among name (cond c (o ∷ those os) (those os)) ≡ kept (cond b (Some o.1) (named_among name os))
      by_tests none rest true is true holds = one_among name o (those os) ∙ (ap (λ b. cond b (Some o.1) (named_among name (those os))) is ∙ kept_so o.1 holds)
      by_tests none rest true is false fails = rest ∙ (ap kept (no_more none is) ∙ left_out o.1 fails)
      by_tests none rest false is true holds = one_among name o (those os) ∙ (ap (λ b. cond b (Some o.1) (named_among name (those os))) is ∙ rest)
      by_tests none rest false is false fails = rest
