-- Objects of different folded names: sorted by name they are the database that they make.
use Rattle.std.proofs.Common.{◌≡◌, ◌∙◌, refl, sym, ap, ℕ, suc, Bool, true, false, ◌||◌, cond, List, [], ◌∷◌, ◌++◌, Some, None}
use Rattle.std.specs.Prelude.{if◌then◌else◌}
use Rattle.std.proofs.lemmas.Bool.{false≢true}
use Rattle.std.specs.FinMap.Entries.{by_order, put}
use Rattle.std.specs.FinMap.Entries as entries
use Rattle.std.specs.List.{AllByRecursion, list_any}
use Rattle.std.specs.Ordering.{is_eq, is_gt}
use Rattle.std.specs.declared.cmp.Ordering.{Ordering}
use Rattle.std.specs.declared.cmp.Ordering.TheVariants.{Less, Equal, Greater}
use Rattle.sqlval.specs.Lists.{any_twice, placed, sorted}
use Rattle.sqlval.specs.Names.{folded, is_same_name}
use Rattle.sqlval.specs.declared.collation.Collation.{Collation}
use Rattle.catalog.specs.Database.{Database, Name, Object, name_order}
use Rattle.catalog.proofs.NamedDatabases.{folded_twice}
use Rattle.query_names.specs.Schema.{automatic, automatic_name}
use Rattle.db_pages.specs.Reordering.{AreReordered}
use Rattle.db_pages.proofs.NamedObjects.{HaveOwnNames, built, built_finds, folded_names, neither, none_among, own_names, same_named}
use Rattle.db_pages.proofs.Reordering.{reordered_front, reordered_map, reordered_refl, reordered_trans}
use Rattle.db_pages.proofs.StoredApart.{other_name}
use Rattle.db_pages.proofs.StoredNames.{some_is_none}
use Rattle.db_pages.proofs.StoredShares.{AllApart, apart_reordered}

-- ---- sorted lists are lists in another order

-- an item that takes its place is one of them
placed_reordered : {A : Type 0} (cmp : A → A → Ordering) (x : A) (ys : List A) → AreReordered (x ∷ ys) (placed cmp x ys)
placed_reordered cmp x [] = reordered_refl (x ∷ [])
placed_reordered {A} cmp x (y ∷ ys) = by_test (placed_reordered cmp x ys) (is_gt (cmp x y))
  where
    by_test : AreReordered (x ∷ ys) (placed cmp x ys) → (b : Bool) → AreReordered (x ∷ y ∷ ys) (cond b (y ∷ placed cmp x ys) (x ∷ y ∷ ys))
    by_test (c, d, is, rest) true = (y ∷ c, d, ap (λ ls. y ∷ ls) is, reordered_front y ys (c ++ d) rest)
    by_test rest false = reordered_refl (x ∷ y ∷ ys)

-- all of them
pub sorted_reordered : {A : Type 0} (cmp : A → A → Ordering) (xs : List A) → AreReordered xs (sorted cmp xs)
sorted_reordered cmp [] = refl
sorted_reordered cmp (x ∷ xs) =
    reordered_trans (x ∷ xs) (x ∷ sorted cmp xs) (placed cmp x (sorted cmp xs))
    (reordered_front x xs (sorted cmp xs) (sorted_reordered cmp xs)) (placed_reordered cmp x (sorted cmp xs))

-- ---- names of their own

-- a name that none of them has
different : (name : Name) (os : List (Name × Object)) → list_any (is_same_name name) (own_names os) ≡ false → AllByRecursion (λ n. folded name ≡ n → ⊥) (folded_names os)
different name [] none = tt
different name (o ∷ os) none =
    let apart = neither (is_same_name name o.0) (list_any (is_same_name name) (own_names os)) none in
    ((λ same. false≢true (sym apart.0 ∙ same_named name o.0 same)), different name os apart.1)

-- names of their own are different, and the other way about
apart_of : (os : List (Name × Object)) → HaveOwnNames os → AllApart (folded_names os)
apart_of [] own = tt
apart_of (o ∷ os) own =
    let apart = neither (list_any (is_same_name o.0) (own_names os)) (any_twice is_same_name (own_names os)) own in
    (different o.0 os apart.0, apart_of os apart.1)

none_same : (name : Name) (os : List (Name × Object)) → AllByRecursion (λ n. folded name ≡ n → ⊥) (folded_names os) → list_any (is_same_name name) (own_names os) ≡ false
none_same name [] apart = refl
none_same name (o ∷ os) apart =
    ap (λ b. b || list_any (is_same_name name) (own_names os)) (other_name name o.0 apart.0) ∙ none_same name os apart.1

own_of : (os : List (Name × Object)) → AllApart (folded_names os) → HaveOwnNames os
own_of [] apart = refl
own_of (o ∷ os) apart = ap (λ b. b || any_twice is_same_name (own_names os)) (none_same o.0 os apart.0) ∙ own_of os apart.1

-- they have them in another order too
pub own_reordered : (xs ys : List (Name × Object)) → AreReordered xs ys → HaveOwnNames xs → HaveOwnNames ys
own_reordered xs ys same own =
    own_of ys (apart_reordered (folded_names xs) (folded_names ys) (reordered_map (λ (o : Name × Object). folded o.0) xs ys same) (apart_of xs own))

-- ---- their database

-- by rising name
abbrev pub by_name : Name × Object → Name × Object → Ordering
by_name a b = name_order a.0 b.0

-- an object of a new name takes its place among the others
put_placed : (db : Database) (name : Name) (o : Object) → entries.find name_order name db ≡ None → put name_order name o db ≡ placed by_name (name, o) db
put_placed [] name o none = refl
put_placed (e ∷ es) name o none = by_place (put_placed es name o) (name_order name e.0) none
  where
    by_place : (entries.find name_order name es ≡ None → put name_order name o es ≡ placed by_name (name, o) es) → (r : Ordering) → cond (is_eq r) (Some e.1) (entries.find name_order name es) ≡ None
        → by_order r ((name, o) ∷ e ∷ es) ((e.0, o) ∷ es) (e ∷ put name_order name o es) ≡ (if is_gt r then (e ∷ placed by_name (name, o) es) else ((name, o) ∷ e ∷ es))
    by_place later Less h = refl
    by_place later Equal h = some_is_none e.1 h
    by_place later Greater h = ap (λ (ls : Database). e ∷ ls) (later h)

-- each name is folded
abbrev pub HaveFoldedNames : List (Name × Object) → Type 0
HaveFoldedNames os = AllByRecursion (λ (o : Name × Object). folded o.0 ≡ o.0) os

-- each put under its name, they are in order
pub built_is_sorted : (os : List (Name × Object)) → HaveOwnNames os → HaveFoldedNames os → built os ≡ sorted by_name os
built_is_sorted [] own each = refl
built_is_sorted (o ∷ os) own each =
    let apart = neither (list_any (is_same_name o.0) (own_names os)) (any_twice is_same_name (own_names os)) own in
    put_placed (built os) (folded o.0) o.1 (built_finds os o.0 ∙ none_among o.0 os apart.0)
    ∙ ap (λ (n : Name). placed by_name (n, o.1) (built os)) each.0
    ∙ ap (placed by_name o) (built_is_sorted os apart.1 each.1)

-- the names of the indexes that a table's keys make are folded
pub due_folded : (table : Name) (n : ℕ) (keys : List (List (ℕ × Collation))) → HaveFoldedNames (automatic table n keys)
due_folded table n [] = tt
due_folded table n (key ∷ keys) = (folded_twice (automatic_name table n), due_folded table (suc n) keys)
