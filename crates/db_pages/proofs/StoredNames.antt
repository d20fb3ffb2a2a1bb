-- What the sorted names of a list say of it, where they rise, and which objects are found under rising names.
use Rattle.std.proofs.Common.{◌≡◌, refl, sym, ap, subst, ◌∙◌, Bool, true, false, ◌&&◌, cond, List, [], ◌∷◌, map, Some, None}
use Rattle.std.proofs.lemmas.Bool.{false≢true}
use Rattle.std.proofs.lemmas.Cmp.{nat_list_cmp_total}
use Rattle.std.proofs.lemmas.Map.Lookups.{exact_bytes}
use Rattle.std.proofs.lemmas.Map.Text.{is_eq-slice_cmp}
use Rattle.std.proofs.lemmas.Map.Views.{tells_apart}
use Rattle.std.specs.Cmp.{tied_itself}
use Rattle.std.specs.FinMap.Entries.{find}
use Rattle.std.specs.List.{AllByRecursion}
use Rattle.std.specs.Ordering.{eq_by_cmp, is_eq, is_gt, is_lt}
use Rattle.std.specs.Prelude.{is_some}
use Rattle.std.specs.Str.{bytes_eq}
use Rattle.std.specs.declared.cmp.Ordering.{Ordering}
use Rattle.std.specs.declared.cmp.Ordering.TheVariants.{Less, Equal, Greater}
use Rattle.sqlval.specs.Lists.{is_rising, placed, sorted}
use Rattle.sqlval.specs.Names.{folded, is_same_name}
use Rattle.catalog.specs.Database.{Name, Database, Object, name_order}
use Rattle.db_pages.proofs.StoredShares.{AllApart}

-- ---- tests

pub first_of : (a b : Bool) → (a && b) ≡ true → a ≡ true
first_of true b h = refl
first_of false b h = absurd (false≢true h)

pub second_of : (a b : Bool) → (a && b) ≡ true → b ≡ true
second_of true b h = h
second_of false b h = absurd (false≢true h)

pub both_true : (a b : Bool) → a ≡ true → b ≡ true → (a && b) ≡ true
both_true true b h k = k
both_true false b h k = absurd (false≢true h)

pub same_named : (a b : Name) → folded a ≡ folded b → is_same_name a b ≡ true
same_named a b same = subst (λ n. bytes_eq (folded a) n ≡ true) same (sym (is_eq-slice_cmp (folded a) (folded a)) ∙ ap is_eq (tied_itself nat_list_cmp_total (folded a)))

pub named_same : (a b : Name) → is_same_name a b ≡ true → folded a ≡ folded b
named_same a b same = tells_apart exact_bytes (folded a) (folded b) (is_eq-slice_cmp (folded a) (folded b) ∙ same)

-- ---- sorted names

-- what holds of each of a list holds of each when it is sorted
all_placed : (P : Name → Type 0) (x : Name) (ys : List Name) → P x → AllByRecursion P ys → AllByRecursion P (placed name_order x ys)
all_placed P x [] p h = (p, tt)
all_placed P x (y ∷ ys) p h = by_test (all_placed P x ys p h.1) (is_gt (name_order x y))
  where
    by_test : AllByRecursion P (placed name_order x ys) → (b : Bool) → AllByRecursion P (cond b (y ∷ placed name_order x ys) (x ∷ y ∷ ys))
    by_test rest true = (h.0, rest)
    by_test rest false = (p, h)

pub all_sorted : (P : Name → Type 0) (xs : List Name) → AllByRecursion P xs → AllByRecursion P (sorted name_order xs)
all_sorted P [] h = tt
all_sorted P (x ∷ xs) h = all_placed P x (sorted name_order xs) h.0 (all_sorted P xs h.1)

-- and back
all_unplaced : (P : Name → Type 0) (x : Name) (ys : List Name) → AllByRecursion P (placed name_order x ys) → P x × AllByRecursion P ys
all_unplaced P x [] h = h
all_unplaced P x (y ∷ ys) h = by_test (all_unplaced P x ys) (is_gt (name_order x y)) h
  where
    by_test : (AllByRecursion P (placed name_order x ys) → P x × AllByRecursion P ys) → (b : Bool) → AllByRecursion P (cond b (y ∷ placed name_order x ys) (x ∷ y ∷ ys)) → P x × AllByRecursion P (y ∷ ys)
    by_test rest true h = (let parts = rest h.1 in (parts.0, (h.0, parts.1)))
    by_test rest false h = h

all_unsorted : (P : Name → Type 0) (xs : List Name) → AllByRecursion P (sorted name_order xs) → AllByRecursion P xs
all_unsorted P [] h = tt
all_unsorted P (x ∷ xs) h = (let parts = all_unplaced P x (sorted name_order xs) h in (parts.0, all_unsorted P xs parts.1))

-- ---- different names

-- none of these is it
abbrev pub Misses : {A : Type 0} → A → List A → Type 0
Misses x ys = AllByRecursion (λ y. x ≡ y → ⊥) ys

different_unplaced : (x : Name) (ys : List Name) → AllApart (placed name_order x ys) → Misses x ys × AllApart ys
different_unplaced x [] h = (tt, tt)
different_unplaced x (y ∷ ys) h = by_test (different_unplaced x ys) (is_gt (name_order x y)) h
  where
    by_test : (AllApart (placed name_order x ys) → Misses x ys × AllApart ys) → (b : Bool) → AllApart (cond b (y ∷ placed name_order x ys) (x ∷ y ∷ ys)) → Misses x (y ∷ ys) × AllApart (y ∷ ys)
    by_test rest true h =
        let others = rest h.1 in
        let missed = all_unplaced (λ z. y ≡ z → ⊥) x ys h.0 in
        (((λ e. missed.0 (sym e)), others.0), (missed.1, others.1))
    by_test rest false h = h

different_unsorted : (xs : List Name) → AllApart (sorted name_order xs) → AllApart xs
different_unsorted [] h = tt
different_unsorted (x ∷ xs) h =
    let parts = different_unplaced x (sorted name_order xs) h in
    (all_unsorted (λ y. x ≡ y → ⊥) xs parts.0, different_unsorted xs parts.1)

less : (o : Ordering) → is_lt o ≡ true → o ≡ Less
less Less h = refl
less Equal h = absurd (false≢true h)
less Greater h = absurd (false≢true h)

-- what is before a name is before those that follow it
before_all : (ys : List Name) (x y : Name) → name_order x y ≡ Less → AllByRecursion (λ z. name_order y z ≡ Less) ys → AllByRecursion (λ z. name_order x z ≡ Less) ys
before_all [] x y lt h = tt
before_all (z ∷ ys) x y lt h = (nat_list_cmp_total.trans x y z lt h.0, before_all ys x y lt h.1)

first_before : (x : Name) (ys : List Name) → is_rising name_order (x ∷ ys) ≡ true → AllByRecursion (λ y. name_order x y ≡ Less) ys
first_before x [] h = tt
first_before x (y ∷ ys) h =
    let lt = less _ (first_of _ (is_rising name_order (y ∷ ys)) h) in
    (lt, before_all ys x y lt (first_before y ys (second_of _ (is_rising name_order (y ∷ ys)) h)))

missed_before : (x : Name) (ys : List Name) → AllByRecursion (λ y. name_order x y ≡ Less) ys → Misses x ys
missed_before x [] h = tt
missed_before x (y ∷ ys) h =
    ((λ e. false≢true (sym (ap is_lt (tied_itself nat_list_cmp_total x)) ∙ (ap (λ n. is_lt (name_order x n)) e ∙ ap is_lt h.0))), missed_before x ys h.1)

rising_rest : (x : Name) (names : List Name) → is_rising name_order (x ∷ names) ≡ true → is_rising name_order names ≡ true
rising_rest x [] h = refl
rising_rest x (y ∷ names) h = second_of _ (is_rising name_order (y ∷ names)) h

pub rising_different : (names : List Name) → is_rising name_order names ≡ true → AllApart names
rising_different [] h = tt
rising_different (x ∷ names) h = (missed_before x names (first_before x names h), rising_different names (rising_rest x names h))

-- names whose sorted list rises are different
pub sorted_different : (names : List Name) → is_rising name_order (sorted name_order names) ≡ true → AllApart names
sorted_different names h = different_unsorted names (rising_different (sorted name_order names) h)

-- ---- objects by their names

-- the names of the objects, folded
abbrev pub names_in : Database → List Name
names_in db = map (λ o. o.0) db

pub missed : (db : Database) (q : Name) → Misses q (names_in db) → find name_order q db ≡ None
missed [] q none = refl
missed (e ∷ es) q none = by_test (missed es q none.1) (eq_by_cmp name_order q e.0) refl
  where
    by_test : find name_order q es ≡ None → (b : Bool) → eq_by_cmp name_order q e.0 ≡ b → cond b (Some e.1) (find name_order q es) ≡ None
    by_test rest true k = absurd (none.0 (tells_apart exact_bytes q e.0 k))
    by_test rest false k = rest

pub some_is_none : {A : Type 0} {B : Type 0} (x : A) → Some x ≡ None → B
some_is_none x e = absurd (false≢true (sym (ap is_some e)))

pub same_some : {A : Type 0} (x y : A) → Some x ≡ Some y → x ≡ y
same_some x y e = cc

-- what holds of each object that is found holds of all, where the names differ
pub each_found : (P : Name → Object → Type 0) (es : Database) → AllApart (names_in es) → ((q : Name) (o : Object) → find name_order q es ≡ Some o → P q o)
    → AllByRecursion (λ e. P e.0 e.1) es
each_found P [] apart each = tt
each_found P (e ∷ es) apart each = (
  each e.0 e.1 (ap (λ r. cond (is_eq r) (Some e.1) (find name_order e.0 es)) (tied_itself nat_list_cmp_total e.0)),
  each_found P es apart.1 (λ q o found. each q o (by_test q o found (eq_by_cmp name_order q e.0) refl)),
)
  where
    by_test : (q : Name) (o : Object) → find name_order q es ≡ Some o → (b : Bool) → eq_by_cmp name_order q e.0 ≡ b → cond b (Some e.1) (find name_order q es) ≡ Some o
    by_test q o found true k =
        some_is_none o (sym found ∙ (ap (λ n. find name_order n es) (tells_apart exact_bytes q e.0 k) ∙ missed es e.0 apart.0))
    by_test q o found false k = found

-- what holds of all objects holds of each that is found
pub found_among : (P : Object → Type 0) (es : Database) (q : Name) (o : Object) → AllByRecursion (λ e. P e.1) es → find name_order q es ≡ Some o → P o
found_among P [] q o all found = some_is_none o (sym found)
found_among P (e ∷ es) q o all found = by_test (found_among P es q o all.1) (eq_by_cmp name_order q e.0) found
  where
    by_test : (find name_order q es ≡ Some o → P o) → (b : Bool) → cond b (Some e.1) (find name_order q es) ≡ Some o → P o
    by_test rest true found = subst P (same_some e.1 o found) all.0
    by_test rest false found = rest found
