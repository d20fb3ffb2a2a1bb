-- Items of different names: each of them stands in a list, or the list has as many.
use Rattle.std.proofs.Common.{◌≡◌, ◌∙◌, ◌≤◌, inl, inr, refl, sym, ap, subst, Bool, true, false, ◌||◌, cond, List, [], ◌∷◌, ◌++◌, length, map, filter, arith}
use Rattle.std.specs.List.{AllByRecursion, list_any}
use Rattle.std.proofs.lemmas.Bool.{false≢true}
use Rattle.std.proofs.lemmas.List.{append-nil, length-append}
use Rattle.sqlval.specs.Lists.{any_twice}
use Rattle.sqlval.specs.Names.{folded, is_same_name}
use Rattle.catalog.specs.Database.{Name}
use Rattle.db_pages.specs.Reordering.{AreReordered}
use Rattle.db_load.specs.Reading.{StandsIn}
use Rattle.db_pages.proofs.Reordering.{is_reordered, reordered_refl}
use Rattle.db_load.proofs.Items.{among_apart, among_first, among_second}
use Rattle.db_load.proofs.ToldParts.{is_named, neither}

-- ---- how many there are

pub reordered_length : {A : Type 0} (xs ys : List A) → AreReordered xs ys → length xs ≡ length ys
reordered_length [] ys h = ap length (sym h)
reordered_length (x ∷ xs) ys (c, d, is, rest) =
    let more = reordered_length xs (c ++ d) rest in
    let shorter = length-append c d in
    let longer = length-append c (x ∷ d) in
    let whole : length ys ≡ length (c ++ x ∷ d) = ap length is in omega (arith, more, shorter, longer, whole)

-- where an item stands
abbrev pub IsPlaced : {A : Type 0} → A → List A → Type 0
IsPlaced {A} x ys = (c : List A) × (d : List A) × (ys ≡ c ++ x ∷ d)

pub placed : {A : Type 0} (x : A) (ys : List A) → StandsIn x ys → IsPlaced x ys
placed x [] is = absurd is
placed x (y ∷ ys) (inl same) = ([], ys, ap (λ z. z ∷ ys) same)
placed x (y ∷ ys) (inr later) = let rest = placed x ys later in (y ∷ rest.0, rest.1, ap (λ ls. y ∷ ls) rest.2)

-- what holds of all that stand in the list
pub all_of : {A : Type 0} (P : A → Type 0) (xs : List A) → ((x : A) → StandsIn x xs → P x) → AllByRecursion P xs
all_of P [] each = tt
all_of P (x ∷ xs) each = (each x (inl refl), all_of P xs (λ y is. each y (inr is)))

-- ---- different items

-- no item stands twice
abbrev pub AreDifferent : {A : Type 0} → List A → Type 0
AreDifferent [] = Unit
AreDifferent (x ∷ xs) = (StandsIn x xs → ⊥) × AreDifferent xs

others_there : {A : Type 0} (x : A) (c d xs : List A) → (StandsIn x xs → ⊥) → AllByRecursion (λ y. StandsIn y (c ++ x ∷ d)) xs → AllByRecursion (λ y. StandsIn y (c ++ d)) xs
others_there x c d [] apart all = tt
others_there x c d (y ∷ xs) apart all = (
  among_apart y c (x ∷ d) (λ is. among_first y c d is) (λ is. behind is) all.0,
  others_there x c d xs (λ is. apart (inr is)) all.1,
)
  where
    behind : StandsIn y (x ∷ d) → StandsIn y (c ++ d)
    behind (inl same) = absurd (apart (inl (sym same)))
    behind (inr later) = among_second y c d later

-- different items of a list are a part of it
pub part_of : {A : Type 0} (xs ys : List A) → AreDifferent xs → AllByRecursion (λ x. StandsIn x ys) xs → (rest : List A) × AreReordered (xs ++ rest) ys
part_of [] ys apart all = (ys, reordered_refl ys)
part_of {A} (x ∷ xs) ys apart all =
    let at = placed x ys all.0 in
    let more = part_of xs (at.0 ++ at.1) apart.1
    (others_there x at.0 at.1 xs apart.0 (subst (λ (ls : List A). AllByRecursion (λ y. StandsIn y ls) xs) at.2 all.1)) in
    (more.0, (at.0, at.1, at.2, more.1))

pub few : {A : Type 0} (xs ys : List A) → AreDifferent xs → AllByRecursion (λ x. StandsIn x ys) xs → length xs ≤ length ys
few xs ys apart all =
    let part = part_of xs ys apart all in
    let whole = reordered_length (xs ++ part.0) ys part.1 in
    let parts = length-append xs part.0 in omega (arith, whole, parts)

none_left : {A : Type 0} (rest : List A) → length rest ≡ 0 → rest ≡ []
none_left [] h = refl
none_left (x ∷ rest) h = absurd (omega (arith, h))

-- and where it has no more, they are it
pub all_of_them : {A : Type 0} (xs ys : List A) → AreDifferent xs → AllByRecursion (λ x. StandsIn x ys) xs → length xs ≡ length ys → AreReordered xs ys
all_of_them xs ys apart all as_many =
    let part = part_of xs ys apart all in
    let whole = reordered_length (xs ++ part.0) ys part.1 in
    let parts = length-append xs part.0 in
    let none = none_left part.0 (omega (arith, whole, parts, as_many)) in
    is_reordered (xs ++ part.0) xs ys (ap (λ ls. xs ++ ls) none ∙ append-nil xs) part.1

-- ---- names

or_true : (b : Bool) → (b || true) ≡ true
or_true true = refl
or_true false = refl

-- the name of an item is one of the names
pub one_named : {A : Type 0} (f : A → Name) (n : Name) (x : A) (xs : List A) → folded (f x) ≡ folded n → StandsIn x xs → list_any (is_same_name n) (map f xs) ≡ true
one_named f n x [] same is = absurd is
one_named f n x (y ∷ xs) same (inl e) = ap (λ b. b || list_any (is_same_name n) (map f xs)) (is_named n (f y) (ap (λ z. folded (f z)) e ∙ same))
one_named f n x (y ∷ xs) same (inr later) = ap (λ b. is_same_name n (f y) || b) (one_named f n x xs same later) ∙ or_true (is_same_name n (f y))

-- items of different names are different
pub differ : {A : Type 0} (f : A → Name) (xs : List A) → any_twice is_same_name (map f xs) ≡ false → AreDifferent xs
differ f [] once = tt
differ f (x ∷ xs) once =
    let both = neither (list_any (is_same_name (f x)) (map f xs)) (any_twice is_same_name (map f xs)) once in
    (λ is. false≢true (sym both.0 ∙ one_named f (f x) x xs refl is), differ f xs both.1)

-- one item has a name
pub only_one : {A : Type 0} (f : A → Name) (x y : A) (xs : List A) → any_twice is_same_name (map f xs) ≡ false → StandsIn x xs → StandsIn y xs → folded (f x) ≡ folded (f y) → x ≡ y
only_one f x y [] once is other same = absurd is
only_one {A} f x y (z ∷ xs) once is other same =
    let both = neither (list_any (is_same_name (f z)) (map f xs)) (any_twice is_same_name (map f xs)) once in by_places both.0 (λ first second. only_one f x y xs both.1 first second same) is other
  where
    by_places : list_any (is_same_name (f z)) (map f xs) ≡ false → (StandsIn x xs → StandsIn y xs → x ≡ y) → StandsIn x (z ∷ xs) → StandsIn y (z ∷ xs) → x ≡ y
    by_places none later (inl e) (inl g) = sym e ∙ g
    by_places none later (inl e) (inr there) = absurd (false≢true (sym none ∙ one_named f (f z) y xs (sym same ∙ ap (λ u. folded (f u)) (sym e)) there))
    by_places none later (inr there) (inl g) = absurd (false≢true (sym none ∙ one_named f (f z) x xs (same ∙ ap (λ u. folded (f u)) (sym g)) there))
    by_places none later (inr first) (inr second) = later first second

any_kept : {A : Type 0} (f : A → Name) (p : A → Bool) (n : Name) (xs : List A) → list_any (is_same_name n) (map f xs) ≡ false → list_any (is_same_name n) (map f (filter p xs)) ≡ false
any_kept f p n [] none = refl
any_kept f p n (x ∷ xs) none =
    let both = neither (is_same_name n (f x)) (list_any (is_same_name n) (map f xs)) none in by_test (p x) both.0 (any_kept f p n xs both.1)
  where
    by_test : (b : Bool) → is_same_name n (f x) ≡ false → list_any (is_same_name n) (map f (filter p xs)) ≡ false → list_any (is_same_name n) (map f (cond b (x ∷ filter p xs) (filter p xs))) ≡ false
    by_test true here rest = ap (λ b. b || list_any (is_same_name n) (map f (filter p xs))) here ∙ rest
    by_test false here rest = rest

-- some of the items have different names where all do
pub once_kept : {A : Type 0} (f : A → Name) (p : A → Bool) (xs : List A) → any_twice is_same_name (map f xs) ≡ false → any_twice is_same_name (map f (filter p xs)) ≡ false
once_kept f p [] once = refl
once_kept f p (x ∷ xs) once =
    let both = neither (list_any (is_same_name (f x)) (map f xs)) (any_twice is_same_name (map f xs)) once in by_test (p x) both.0 (once_kept f p xs both.1)
  where
    by_test : (b : Bool) → list_any (is_same_name (f x)) (map f xs) ≡ false → any_twice is_same_name (map f (filter p xs)) ≡ false → any_twice is_same_name (map f (cond b (x ∷ filter p xs) (filter p xs))) ≡ false
    by_test true none rest = ap (λ b. b || any_twice is_same_name (map f (filter p xs))) (any_kept f p (f x) xs none) ∙ rest
    by_test false none rest = rest
