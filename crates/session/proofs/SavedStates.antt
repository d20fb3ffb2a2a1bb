-- The savepoints of the machine, which has the newest first, by those that the connections keep.
use Rattle.std.proofs.Common.{◌≡◌, ◌<◌, refl, sym, ap, ◌∙◌, ℕ, zero, suc, ◌+◌, Bool, true, false, ◌||◌, List, [], ◌∷◌, ◌++◌, length, map, take, drop, get_or, arith}
use Rattle.std.proofs.lemmas.Bool.{false≢true}
use Rattle.std.proofs.lemmas.List.{drop-map, get_or-map, length-map, map-append, map_push, reverse-append, take-append-drop}
use Rattle.std.proofs.lemmas.Slice.Eq.{bytes_eq-Decides}
use Rattle.std.proofs.lemmas.Str.Ascii.{lowercase-lowercase}
use Rattle.std.specs.Char.{to_ascii_lowercase}
use Rattle.std.specs.List.{AllByRecursion, list_any}
use Rattle.std.specs.Prelude.{if◌then◌else◌, reverse}
use Rattle.std.specs.Str.{bytes_eq}
use mathlib.Core.List.{reverse_aux, reverse_aux-append}
use Rattle.sqlval.specs.Names.{folded, is_same_name}
use Rattle.catalog.specs.Database.{Name}
use Rattle.session.specs.Machine.{SavepointState}
use Rattle.session.specs.Outcomes.{from_name}
use Rattle.session.specs.SavedTables.{IsNewestNamed}
use Rattle.session.specs.Saving.{IsOfName, SavedAs, states_of}

-- ---- names

folded_twice : (a : Name) → folded (folded a) ≡ folded a
folded_twice [] = refl
folded_twice (c ∷ cs) = ap (λ x. x ∷ folded (folded cs)) (lowercase-lowercase c) ∙ ap (λ xs. to_ascii_lowercase c ∷ xs) (folded_twice cs)

turned_by : (x y : Name) (a b : Bool) → (a ≡ true → x ≡ y) → (x ≡ y → a ≡ true) → (b ≡ true → y ≡ x) → (y ≡ x → b ≡ true) → a ≡ b
turned_by x y true b same is back turned = sym (turned (sym (same refl)))
turned_by x y false true same is back turned = is (sym (back refl))
turned_by x y false false same is back turned = refl

turned : (a b : Name) → is_same_name a b ≡ is_same_name b a
turned a b =
    turned_by (folded a) (folded b) (is_same_name a b) (is_same_name b a) ((bytes_eq-Decides (folded a) (folded b)).0) ((bytes_eq-Decides (folded a) (folded b)).1)
    ((bytes_eq-Decides (folded b) (folded a)).0) ((bytes_eq-Decides (folded b) (folded a)).1)

-- a name is that of a savepoint whether it is compared with the one kept or with the machine's
named_as : (n written kept : Name) → kept ≡ folded written → is_same_name n kept ≡ is_same_name written n
named_as n written kept is = ap (is_same_name n) is ∙ ap (bytes_eq (folded n)) (folded_twice written) ∙ turned n written

-- ---- lists

pub all_take : {A : Type 0} (P : A → Type 0) (n : ℕ) (xs : List A) → AllByRecursion P xs → AllByRecursion P (take n xs)
all_take P zero xs all = tt
all_take P (suc n) [] all = tt
all_take P (suc n) (x ∷ xs) all = (all.0, all_take P n xs all.1)

pub all_drop : {A : Type 0} (P : A → Type 0) (n : ℕ) (xs : List A) → AllByRecursion P xs → AllByRecursion P (drop n xs)
all_drop P zero xs all = all
all_drop P (suc n) [] all = tt
all_drop P (suc n) (x ∷ xs) all = all_drop P n xs all.1

pub all_push : {A : Type 0} (P : A → Type 0) (xs : List A) (x : A) → AllByRecursion P xs → P x → AllByRecursion P (xs ++ x ∷ [])
all_push P [] x all has = (has, tt)
all_push P (y ∷ xs) x all has = (all.0, all_push P xs x all.1 has)

pub all_map : {A : Type 0} (P Q : A → Type 0) (xs : List A) → ((x : A) → P x → Q x) → AllByRecursion P xs → AllByRecursion Q xs
all_map P Q [] f all = tt
all_map P Q (x ∷ xs) f all = (f x all.0, all_map P Q xs f all.1)

-- the one at a place
pub record At {A : Type 0} (P : A → Type 0) (xs : List A) (n : ℕ) : Type 0 where
  pub item : A
  pub has : P item
  pub more : take (n + 1) xs ≡ take n xs ++ item ∷ []
  pub is : (d : A) → get_or xs n d ≡ item

pub at_place : {A : Type 0} (P : A → Type 0) (n : ℕ) (xs : List A) → n < length xs → AllByRecursion P xs → At P xs n
at_place P n [] within all = absurd (omega (arith, within))
at_place P zero (x ∷ xs) within all = record { item = x; has = all.0; more = refl; is = λ d. refl }
at_place P (suc n) (x ∷ xs) within all =
    let rest = at_place P n xs (omega (arith, within)) all.1 in
    let one_on : suc n + 1 ≡ suc (n + 1) = omega arith in
    record { item = rest.item; has = rest.has; more = ap (λ i. take i (x ∷ xs)) one_on ∙ ap (λ ys. x ∷ ys) rest.more; is = rest.is }

-- ---- the newest first

pub states_push : {Kept : Type 0} (points : List (SavedAs Kept)) (p : SavedAs Kept) → states_of (points ++ p ∷ []) ≡ p.state ∷ states_of points
states_push points p = ap reverse (map_push (λ q. q.state) points p) ∙ reverse-append (map (λ q. q.state) points) (p.state ∷ [])

passed_over : (n : Name) (xs ys : List SavepointState) → AllByRecursion (λ (s : SavepointState). is_same_name n s.name ≡ false) xs → from_name n (reverse_aux xs ys) ≡ from_name n ys
passed_over n [] ys others = refl
passed_over n (x ∷ xs) ys others = passed_over n xs (x ∷ ys) others.1 ∙ ap (λ b. if b then (x ∷ ys) else from_name n ys) others.0

neither : (a b : Bool) → (a || b) ≡ false → (a ≡ false) × (b ≡ false)
neither true b is = absurd (false≢true (sym is))
neither false b is = (refl, is)

-- the names that are kept
abbrev pub names : {Kept : Type 0} → List (SavedAs Kept) → List Name
names points = map (λ s. s.name) (map (λ p. p.tables) points)

others_named : {Kept : Type 0} (n : Name) (points : List (SavedAs Kept)) → AllByRecursion IsOfName points → list_any (λ other. is_same_name other n) (names points) ≡ false
    → AllByRecursion (λ (s : SavepointState). is_same_name n s.name ≡ false) (map (λ p. p.state) points)
others_named n [] all none = tt
others_named n (p ∷ points) all none =
    let both = neither (is_same_name p.tables.name n) (list_any (λ other. is_same_name other n) (names points)) none in
    (named_as n p.tables.name p.state.name all.0 ∙ both.0, others_named n points all.1 both.1)

-- no savepoint has the name
pub states_none : {Kept : Type 0} (n : Name) (points : List (SavedAs Kept)) → AllByRecursion IsOfName points → list_any (λ other. is_same_name other n) (names points) ≡ false → from_name n (states_of points) ≡ []
states_none n points all none = passed_over n (map (λ p. p.state) points) [] (others_named n points all none)

-- a savepoint's place, with those before it
pub record FromPlace {Kept : Type 0} (n : Name) (points : List (SavedAs Kept)) (place : ℕ) (P : SavedAs Kept → Type 0) : Type 0 where
  pub at : At P points place
  pub is : from_name n (states_of points) ≡ at.item.state ∷ states_of (take place points)
  pub stays : states_of (take (place + 1) points) ≡ at.item.state ∷ states_of (take place points)

cut_at : {Kept : Type 0} (k : ℕ) (points : List (SavedAs Kept)) → states_of points ≡ reverse_aux (map (λ p. p.state) (drop k points)) (states_of (take k points))
cut_at k points =
    ap (λ ps. states_of ps) (sym (take-append-drop k points))
    ∙ ap reverse (map-append (λ p. p.state) (take k points) (drop k points))
    ∙ reverse_aux-append (map (λ p. p.state) (take k points)) (map (λ p. p.state) (drop k points)) []

pub from_place : {Kept : Type 0} {P : SavedAs Kept → Type 0} (n : Name) (points : List (SavedAs Kept)) (place : ℕ) → ((p : SavedAs Kept) → P p → IsOfName p) → AllByRecursion P points → IsNewestNamed n (names points) place → FromPlace n points place P
from_place {P = P} n points place named all newest = record {
  at = at;
  is = ap (from_name n) (cut_at (place + 1) points)
      ∙ passed_over n (map (λ p. p.state) (drop (place + 1) points)) (states_of (take (place + 1) points)) others
      ∙ ap (from_name n) stays
      ∙ ap (λ b. if b then (at.item.state ∷ states_of (take place points)) else from_name n (states_of (take place points))) here;
  stays = stays;
}
  where
    within : place < length points
    within = omega (arith, newest.within, length-map (map (λ p. p.tables) points) (λ s. s.name), length-map points (λ p. p.tables))

    at : At P points place
    at = at_place P place points within all

    stays : states_of (take (place + 1) points) ≡ at.item.state ∷ states_of (take place points)
    stays = ap (λ ps. states_of ps) at.more ∙ states_push (take place points) at.item

    dropped : names (drop (place + 1) points) ≡ drop (place + 1) (names points)
    dropped = sym (drop-map (λ s. s.name) (place + 1) (map (λ p. p.tables) points) ∙ ap (map (λ s. s.name)) (drop-map (λ p. p.tables) (place + 1) points))

    others : AllByRecursion (λ (s : SavepointState). is_same_name n s.name ≡ false) (map (λ p. p.state) (drop (place + 1) points))
    others = others_named n (drop (place + 1) points) (all_drop IsOfName (place + 1) points (all_map P IsOfName points named all)) (ap (list_any (λ other. is_same_name other n)) dropped ∙ newest.last)

    name_is : get_or (names points) place [] ≡ at.item.tables.name
    name_is = get_or-map (λ s. s.name) (map (λ p. p.tables) points) place at.item.tables [] (omega (arith, within, length-map points (λ p. p.tables)))
        ∙ ap (λ s. s.name) (get_or-map (λ p. p.tables) points place at.item at.item.tables within ∙ ap (λ p. p.tables) (at.is at.item))

    here : is_same_name n at.item.state.name ≡ true
    here = named_as n at.item.tables.name at.item.state.name (named at.item at.has) ∙ ap (λ name. is_same_name name n) (sym name_is) ∙ newest.named []
