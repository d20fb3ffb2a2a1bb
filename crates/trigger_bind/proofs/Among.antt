-- What is among the items of lists.
use Rattle.std.proofs.Common.{◌≡◌, ◌⊎◌, inl, inr, refl, sym, ap, subst, ◌∙◌, ℕ, zero, suc, ◌<◌, Bool, true, false, List, [], ◌∷◌, ◌++◌, length, map, Option, Some, None, cond, arith}
use Rattle.std.proofs.lemmas.Bool.{false≢true}
use Rattle.std.proofs.lemmas.List.Elements.{Contains-append_cases, Contains-append_left, Contains-append_right}
use Rattle.std.specs.List.{Contains, list_any}
use Rattle.std.specs.Ordering.{is_gt}
use Rattle.std.specs.Prelude.{◌||◌, filter, flat_map, slice_get}
use Rattle.std.specs.declared.cmp.Ordering.{Ordering}
use Rattle.sqlval.specs.Lists.{placed, sorted}

pub in_none : {A : Type 0} (x : A) → Contains [] x → ⊥
in_none x (k, lt, is) = absurd (omega (arith, lt))

pub in_here : {A : Type 0} (x : A) (xs : List A) → Contains (x ∷ xs) x
in_here x xs = (0, omega arith, refl)

pub in_there : {A : Type 0} (x y : A) (xs : List A) → Contains xs x → Contains (y ∷ xs) x
in_there x y xs (k, lt, is) = (suc k, omega (arith, lt), is)

pub in_either : {A : Type 0} (x y : A) (xs : List A) → Contains (y ∷ xs) x → (y ≡ x) ⊎ Contains xs x
in_either x y xs (zero, lt, is) = inl is
in_either x y xs (suc k, lt, is) = inr (k, omega (arith, lt), is)

-- where nothing is among them there is none
pub none_left : {A : Type 0} (xs : List A) → ((x : A) → Contains xs x → ⊥) → xs ≡ []
none_left [] none = refl
none_left (x ∷ xs) none = absurd (none x (in_here x xs))

pub not_in : {A : Type 0} (x : A) (xs : List A) → xs ≡ [] → Contains xs x → ⊥
not_in x xs none is = in_none x (subst (λ ys. Contains ys x) none is)

module _ {A B : Type 0} (f : A → List B) (y : B) where
  pub flat_into : (x : A) (xs : List A) → Contains xs x → Contains (f x) y → Contains (flat_map f xs) y
  flat_into x [] at is = absurd (in_none x at)
  flat_into x (z ∷ xs) at is = by (in_either x z xs at) (flat_into x xs)
    where
      by : (z ≡ x) ⊎ Contains xs x → (Contains xs x → Contains (f x) y → Contains (flat_map f xs) y) → Contains (f z ++ flat_map f xs) y
      by (inl same) rest = Contains-append_left (f z) (flat_map f xs) y (subst (λ w. Contains (f w) y) (sym same) is)
      by (inr there) rest = Contains-append_right (f z) (flat_map f xs) y (rest there is)

  pub flat_from : (xs : List A) → Contains (flat_map f xs) y → (x : A) × Contains xs x × Contains (f x) y
  flat_from [] is = absurd (in_none y is)
  flat_from (x ∷ xs) is = by (Contains-append_cases (f x) (flat_map f xs) y is) (flat_from xs)
    where
      by : Contains (f x) y ⊎ Contains (flat_map f xs) y → (Contains (flat_map f xs) y → (z : A) × Contains xs z × Contains (f z) y) → (z : A) × Contains (x ∷ xs) z × Contains (f z) y
      by (inl here) rest = (x, in_here x xs, here)
      by (inr there) rest = (let r = rest there in (r.0, in_there r.0 x xs r.1, r.2))

module _ {A B : Type 0} (f : A → B) where
  pub map_into : (x : A) (xs : List A) → Contains xs x → Contains (map f xs) (f x)
  map_into x [] at = absurd (in_none x at)
  map_into x (z ∷ xs) at = by (in_either x z xs at) (map_into x xs)
    where
      by : (z ≡ x) ⊎ Contains xs x → (Contains xs x → Contains (map f xs) (f x)) → Contains (f z ∷ map f xs) (f x)
      by (inl same) rest = subst (λ w. Contains (f z ∷ map f xs) (f w)) same (in_here (f z) (map f xs))
      by (inr there) rest = in_there (f x) (f z) (map f xs) (rest there)

  pub map_from : (y : B) (xs : List A) → Contains (map f xs) y → (x : A) × Contains xs x × (f x ≡ y)
  map_from y [] is = absurd (in_none y is)
  map_from y (x ∷ xs) is = by (in_either y (f x) (map f xs) is) (map_from y xs)
    where
      by : (f x ≡ y) ⊎ Contains (map f xs) y → (Contains (map f xs) y → (z : A) × Contains xs z × (f z ≡ y)) → (z : A) × Contains (x ∷ xs) z × (f z ≡ y)
      by (inl same) rest = (x, in_here x xs, same)
      by (inr there) rest = (let r = rest there in (r.0, in_there r.0 x xs r.1, r.2))

module _ {A : Type 0} (p : A → Bool) (x : A) where
  pub filter_into : (xs : List A) → Contains xs x → p x ≡ true → Contains (filter p xs) x
  filter_into [] at so = absurd (in_none x at)
  filter_into (z ∷ xs) at so = by (in_either x z xs at) (p z) refl (filter_into xs)
    where
      by : (z ≡ x) ⊎ Contains xs x → (b : Bool) → p z ≡ b → (Contains xs x → p x ≡ true → Contains (filter p xs) x) → Contains (cond b (z ∷ filter p xs) (filter p xs)) x
      by (inl same) true e rest = subst (λ w. Contains (z ∷ filter p xs) w) same (in_here z (filter p xs))
      by (inl same) false e rest = absurd (false≢true (sym e ∙ (ap p same ∙ so)))
      by (inr there) true e rest = in_there x z (filter p xs) (rest there so)
      by (inr there) false e rest = rest there so

  pub filter_from : (xs : List A) → Contains (filter p xs) x → Contains xs x × (p x ≡ true)
  filter_from [] is = absurd (in_none x is)
  filter_from (z ∷ xs) is = by (p z) refl is (filter_from xs)
    where
      by : (b : Bool) → p z ≡ b → Contains (cond b (z ∷ filter p xs) (filter p xs)) x → (Contains (filter p xs) x → Contains xs x × (p x ≡ true)) → Contains (z ∷ xs) x × (p x ≡ true)
      by true e at rest = by_place (in_either x z (filter p xs) at)
        where
          by_place : (z ≡ x) ⊎ Contains (filter p xs) x → Contains (z ∷ xs) x × (p x ≡ true)
          by_place (inl same) = (subst (λ w. Contains (z ∷ xs) w) same (in_here z xs), subst (λ w. p w ≡ true) same e)
          by_place (inr there) = (let r = rest there in (in_there x z xs r.0, r.1))
      by false e at rest = (let r = rest at in (in_there x z xs r.0, r.1))

  pub any_of : (xs : List A) → Contains xs x → p x ≡ true → list_any p xs ≡ true
  any_of [] at so = absurd (in_none x at)
  any_of (z ∷ xs) at so = by (in_either x z xs at) (any_of xs)
    where
      or_true : (b : Bool) → (b || true) ≡ true
      or_true true = refl
      or_true false = refl

      by : (z ≡ x) ⊎ Contains xs x → (Contains xs x → p x ≡ true → list_any p xs ≡ true) → (p z || list_any p xs) ≡ true
      by (inl same) rest = ap (λ b. b || list_any p xs) (ap p same ∙ so)
      by (inr there) rest = ap (λ b. p z || b) (rest there so) ∙ or_true (p z)

pub any_from : {A : Type 0} (p : A → Bool) (xs : List A) → list_any p xs ≡ true → (x : A) × Contains xs x × (p x ≡ true)
any_from p [] h = absurd (false≢true h)
any_from {A} p (x ∷ xs) h = by (p x) refl h (any_from p xs)
  where
    by : (b : Bool) → p x ≡ b → (b || list_any p xs) ≡ true → (list_any p xs ≡ true → (z : A) × Contains xs z × (p z ≡ true)) → (z : A) × Contains (x ∷ xs) z × (p z ≡ true)
    by true e k rest = (x, in_here x xs, e)
    by false e k rest = (let r = rest k in (r.0, in_there r.0 x xs r.1, r.2))

module _ {A : Type 0} (cmp : A → A → Ordering) (x : A) where
  placed_here : (ys : List A) → Contains (placed cmp x ys) x
  placed_here [] = in_here x []
  placed_here (y ∷ ys) = by (is_gt (cmp x y)) (placed_here ys)
    where
      by : (b : Bool) → Contains (placed cmp x ys) x → Contains (cond b (y ∷ placed cmp x ys) (x ∷ y ∷ ys)) x
      by true rest = in_there x y (placed cmp x ys) rest
      by false rest = in_here x (y ∷ ys)

  placed_there : (z : A) (ys : List A) → Contains ys z → Contains (placed cmp x ys) z
  placed_there z [] at = absurd (in_none z at)
  placed_there z (y ∷ ys) at = by (is_gt (cmp x y)) (in_either z y ys at) (placed_there z ys)
    where
      by : (b : Bool) → (y ≡ z) ⊎ Contains ys z → (Contains ys z → Contains (placed cmp x ys) z) → Contains (cond b (y ∷ placed cmp x ys) (x ∷ y ∷ ys)) z
      by true (inl same) rest = subst (λ w. Contains (y ∷ placed cmp x ys) w) same (in_here y (placed cmp x ys))
      by true (inr there) rest = in_there z y (placed cmp x ys) (rest there)
      by false is rest = in_there z x (y ∷ ys) at

  placed_from : (z : A) (ys : List A) → Contains (placed cmp x ys) z → (x ≡ z) ⊎ Contains ys z
  placed_from z [] is = in_either z x [] is
  placed_from z (y ∷ ys) is = by (is_gt (cmp x y)) is (placed_from z ys)
    where
      later : (y ≡ z) ⊎ Contains (placed cmp x ys) z → (Contains (placed cmp x ys) z → (x ≡ z) ⊎ Contains ys z) → (x ≡ z) ⊎ Contains (y ∷ ys) z
      later (inl same) rest = inr (subst (λ w. Contains (y ∷ ys) w) same (in_here y ys))
      later (inr there) rest = onto (rest there)
        where
          onto : (x ≡ z) ⊎ Contains ys z → (x ≡ z) ⊎ Contains (y ∷ ys) z
          onto (inl same) = inl same
          onto (inr further) = inr (in_there z y ys further)

      by : (b : Bool) → Contains (cond b (y ∷ placed cmp x ys) (x ∷ y ∷ ys)) z → (Contains (placed cmp x ys) z → (x ≡ z) ⊎ Contains ys z) → (x ≡ z) ⊎ Contains (y ∷ ys) z
      by true at rest = later (in_either z y (placed cmp x ys) at) rest
      by false at rest = in_either z x (y ∷ ys) at

module _ {A : Type 0} (cmp : A → A → Ordering) (x : A) where
  pub sorted_into : (xs : List A) → Contains xs x → Contains (sorted cmp xs) x
  sorted_into [] at = at
  sorted_into (y ∷ ys) at = by (in_either x y ys at) (sorted_into ys)
    where
      by : (y ≡ x) ⊎ Contains ys x → (Contains ys x → Contains (sorted cmp ys) x) → Contains (placed cmp y (sorted cmp ys)) x
      by (inl same) rest = subst (λ w. Contains (placed cmp y (sorted cmp ys)) w) same (placed_here cmp y (sorted cmp ys))
      by (inr there) rest = placed_there cmp y x (sorted cmp ys) (rest there)

  pub sorted_from : (xs : List A) → Contains (sorted cmp xs) x → Contains xs x
  sorted_from [] is = is
  sorted_from (y ∷ ys) is = by (placed_from cmp y x (sorted cmp ys) is) (sorted_from ys)
    where
      by : (y ≡ x) ⊎ Contains (sorted cmp ys) x → (Contains (sorted cmp ys) x → Contains ys x) → Contains (y ∷ ys) x
      by (inl same) rest = subst (λ w. Contains (y ∷ ys) w) same (in_here y ys)
      by (inr there) rest = in_there x y ys (rest there)

-- ---- places

same_some : {A : Type 0} (x y : A) → (let l : Option A = Some x in l) ≡ Some y → x ≡ y
same_some x y e = cc

no_some : {A : Type 0} (x : A) → (let l : Option A = None in l) ≡ Some x → ⊥
no_some x e = absurd cc

pub at_place : {A : Type 0} (xs : List A) (i : ℕ) (x : A) → slice_get xs i ≡ Some x → Contains xs x
at_place [] i x is = absurd (no_some x is)
at_place (y ∷ xs) zero x is = subst (λ w. Contains (y ∷ xs) w) (same_some y x is) (in_here y xs)
at_place (y ∷ xs) (suc i) x is = in_there x y xs (at_place xs i x is)

pub place_of : {A : Type 0} (xs : List A) (x : A) → Contains xs x → (i : ℕ) × (slice_get xs i ≡ Some x)
place_of [] x at = absurd (in_none x at)
place_of {A} (y ∷ xs) x at = by (in_either x y xs at) (place_of xs x)
  where
    by : (y ≡ x) ⊎ Contains xs x → (Contains xs x → (i : ℕ) × (slice_get xs i ≡ Some x)) → (i : ℕ) × (slice_get (y ∷ xs) i ≡ Some x)
    by (inl same) rest = (0, ap (λ (w : A). (let l : Option A = Some w in l)) same)
    by (inr there) rest = (let r = rest there in (suc r.0, r.1))

pub one_there : {A : Type 0} (xs : List A) (i : ℕ) (x y : A) → slice_get xs i ≡ Some x → slice_get xs i ≡ Some y → x ≡ y
one_there xs i x y is other = same_some x y (sym is ∙ other)

pub is_within : {A : Type 0} (xs : List A) (i : ℕ) (x : A) → slice_get xs i ≡ Some x → i < length xs
is_within [] i x is = absurd (no_some x is)
is_within (y ∷ xs) zero x is = omega arith
is_within (y ∷ xs) (suc i) x is = (let lt = is_within xs i x is in omega (arith, lt))

pub there_is : {A : Type 0} (xs : List A) (i : ℕ) → i < length xs → (x : A) × (slice_get xs i ≡ Some x)
there_is [] i lt = absurd (omega (arith, lt))
there_is (x ∷ xs) zero lt = (x, refl)
there_is (x ∷ xs) (suc i) lt = there_is xs i (omega (arith, lt))
