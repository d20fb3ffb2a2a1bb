-- Two items that are so stand side by side where items are sorted.
use Rattle.std.proofs.Common.{◌≡◌, ◌≤◌, ◌<◌, ◌+◌, ◌-◌, refl, sym, ap, subst, ◌∙◌, ℕ, zero, suc, Bool, true, false, cond, ◌||◌, List, [], ◌∷◌, length, map, drop, slice_index_or, arith}
use mathlib.Core.Bool.{true≢false}
use Rattle.std.specs.Cmp.{IsTotalOrder}
use Rattle.std.specs.List.{list_any}
use Rattle.std.specs.Ordering.{is_gt, ordering_reverse}
use Rattle.std.specs.Prelude.{⊤}
use Rattle.std.specs.declared.cmp.Ordering.{Ordering}
use Rattle.std.specs.declared.cmp.Ordering.TheVariants.{Less, Equal, Greater}
use Rattle.sqlval.specs.Lists.{any_twice, placed, sorted}
use Rattle.index_build.specs.Ranking.{any_beside}

-- ---- sorted items

module _ {X : Type 0} (cmp : X → X → Ordering) (o : IsTotalOrder cmp) where
  abbrev above : X → X → Bool
  above x y = is_gt (cmp x y)

  back : (x y : X) → above x y ≡ true → above y x ≡ false
  back x y e = by (cmp x y) (cmp y x) (o.antisymm y x) e where
    by : (p q : Ordering) → q ≡ ordering_reverse p → is_gt p ≡ true → is_gt q ≡ false
    by Less q is e = absurd (true≢false (sym e))
    by Equal q is e = absurd (true≢false (sym e))
    by Greater q is e = ap is_gt is

  -- one that isn't above another isn't above what that isn't above
  through : (x y z : X) → above x y ≡ false → above y z ≡ false → above x z ≡ false
  through x y z low up = by (cmp x y) refl (cmp y z) refl low up where
    by : (p : Ordering) → cmp x y ≡ p → (q : Ordering) → cmp y z ≡ q → is_gt p ≡ false → is_gt q ≡ false → above x z ≡ false
    by Less e Less f low up = ap is_gt (o.trans x y z e f)
    by Less e Equal f low up = ap is_gt (o.antisymm x z ∙ ap ordering_reverse (sym (o.congr y z x f) ∙ o.antisymm y x ∙ ap ordering_reverse e))
    by Equal e q f low up = ap is_gt (o.congr x y z e ∙ f) ∙ up
    by Greater e q f low up = absurd (true≢false low)
    by p e Greater f low up = absurd (true≢false up)

  -- none is above the next
  abbrev pub Rise : List X → Type 0
  Rise [] = ⊤
  Rise (x ∷ []) = ⊤
  Rise (x ∷ y ∷ ys) = (above x y ≡ false) × Rise (y ∷ ys)

  rise_from : (x y : X) (ys : List X) → Rise (y ∷ ys) → above x y ≡ true → Rise (y ∷ placed cmp x ys)
  rise_from x y [] rise e = (back x y e, tt)
  rise_from x y (z ∷ zs) rise e = by (rise_from x z zs rise.1) (above x z) refl where
    by : (above x z ≡ true → Rise (z ∷ placed cmp x zs)) → (b : Bool) → above x z ≡ b → Rise (y ∷ cond b (z ∷ placed cmp x zs) (x ∷ z ∷ zs))
    by more true f = (rise.0, more f)
    by more false f = (back x y e, (f, rise.1))

  placed_rise : (x : X) (ys : List X) → Rise ys → Rise (placed cmp x ys)
  placed_rise x [] rise = tt
  placed_rise x (y ∷ ys) rise = by (above x y) refl where
    by : (b : Bool) → above x y ≡ b → Rise (cond b (y ∷ placed cmp x ys) (x ∷ y ∷ ys))
    by true e = rise_from x y ys rise e
    by false e = (e, rise)

  pub sorted_rise : (xs : List X) → Rise (sorted cmp xs)
  sorted_rise [] = tt
  sorted_rise (x ∷ xs) = placed_rise x (sorted cmp xs) (sorted_rise xs)

  -- ---- of which two are so

  module _ (test : X → X → Bool) where
    -- one that isn't so with another isn't with what comes after that
    abbrev pub Ends : Type 0
    Ends = (x y z : X) → above x y ≡ false → above y z ≡ false → test x y ≡ false → test x z ≡ false

    none_later : Ends → (x y : X) (ys : List X) → above x y ≡ false → Rise (y ∷ ys) → test x y ≡ false → list_any (test x) ys ≡ false
    none_later ends x y [] low rise e = refl
    none_later ends x y (z ∷ zs) low rise e =
        let other = ends x y z low rise.0 e in
        ap (λ (b : Bool). b || list_any (test x) zs) other ∙ none_later ends x z zs (through x y z low rise.0) rise.1 other

    pub beside_is : Ends → (xs : List X) → Rise xs → any_twice test xs ≡ any_beside test xs
    beside_is ends [] rise = refl
    beside_is ends (x ∷ []) rise = refl
    beside_is ends (x ∷ y ∷ ys) rise = by (test x y) refl (beside_is ends (y ∷ ys) rise.1) where
      by : (b : Bool) → test x y ≡ b → any_twice test (y ∷ ys) ≡ any_beside test (y ∷ ys)
          → (b || list_any (test x) ys) || any_twice test (y ∷ ys) ≡ b || any_beside test (y ∷ ys)
      by true e more = refl
      by false e more = ap (λ (b : Bool). b || any_twice test (y ∷ ys)) (none_later ends x y ys rise.0 rise.1 e) ∙ more

-- ---- in whichever order they stand

module _ {X : Type 0} (cmp : X → X → Ordering) (test : X → X → Bool) (even : (x y : X) → test x y ≡ test y x) where
  any_placed : (p : X → Bool) (x : X) (xs : List X) → list_any p (placed cmp x xs) ≡ p x || list_any p xs
  any_placed p x [] = refl
  any_placed p x (y ∷ ys) = by (is_gt (cmp x y)) (any_placed p x ys) where
    swapped : (a b c : Bool) → b || (a || c) ≡ a || (b || c)
    swapped true true c = refl
    swapped true false c = refl
    swapped false b c = refl

    by : (b : Bool) → list_any p (placed cmp x ys) ≡ p x || list_any p ys → list_any p (cond b (y ∷ placed cmp x ys) (x ∷ y ∷ ys)) ≡ p x || (p y || list_any p ys)
    by true more = ap (λ (b : Bool). p y || b) more ∙ swapped (p x) (p y) (list_any p ys)
    by false more = refl

  any_sorted : (p : X → Bool) (xs : List X) → list_any p (sorted cmp xs) ≡ list_any p xs
  any_sorted p [] = refl
  any_sorted p (x ∷ xs) = any_placed p x (sorted cmp xs) ∙ ap (λ (b : Bool). p x || b) (any_sorted p xs)

  twice_placed : (x : X) (ys : List X) → any_twice test (placed cmp x ys) ≡ list_any (test x) ys || any_twice test ys
  twice_placed x [] = refl
  twice_placed x (y ∷ ys) = by (is_gt (cmp x y)) (twice_placed x ys) where
    parted : (a b c d : Bool) → (a || b) || (c || d) ≡ (a || c) || (b || d)
    parted true b c d = refl
    parted false true true d = refl
    parted false true false d = refl
    parted false false c d = refl

    by : (b : Bool) → any_twice test (placed cmp x ys) ≡ list_any (test x) ys || any_twice test ys
        → any_twice test (cond b (y ∷ placed cmp x ys) (x ∷ y ∷ ys)) ≡ (test x y || list_any (test x) ys) || (list_any (test y) ys || any_twice test ys)
    by true more =
        ap (λ (b : Bool). b || any_twice test (placed cmp x ys)) (any_placed (test y) x ys ∙ ap (λ (b : Bool). b || list_any (test y) ys) (even y x))
        ∙ ap (λ (b : Bool). (test x y || list_any (test y) ys) || b) more
        ∙ parted (test x y) (list_any (test y) ys) (list_any (test x) ys) (any_twice test ys)
    by false more = refl

  pub twice_sorted : (xs : List X) → any_twice test (sorted cmp xs) ≡ any_twice test xs
  twice_sorted [] = refl
  twice_sorted (x ∷ xs) =
      twice_placed x (sorted cmp xs) ∙ ap (λ (b : Bool). b || any_twice test (sorted cmp xs)) (any_sorted (test x) xs) ∙ ap (λ (b : Bool). list_any (test x) xs || b) (twice_sorted xs)

-- through a function, where the tests agree
module _ {X Y : Type 0} (f : X → Y) (test : Y → Y → Bool) (same : X → X → Bool) (agree : (x y : X) → test (f x) (f y) ≡ same x y) where
  any_through : (x : X) (ys : List X) → list_any (test (f x)) (map f ys) ≡ list_any (same x) ys
  any_through x [] = refl
  any_through x (y ∷ ys) = ap (λ (b : Bool). b || list_any (test (f x)) (map f ys)) (agree x y) ∙ ap (λ (b : Bool). same x y || b) (any_through x ys)

  pub twice_through : (xs : List X) → any_twice test (map f xs) ≡ any_twice same xs
  twice_through [] = refl
  twice_through (x ∷ xs) = ap (λ (b : Bool). b || any_twice test (map f xs)) (any_through x xs) ∙ ap (λ (b : Bool). list_any (same x) xs || b) (twice_through xs)

-- ---- one after another

-- What is left from the item before this place decides.
pub record IsPast {X : Type 0} (test : X → X → Bool) (xs : List X) (index : ℕ) : Type 0 where
  pub low : 1 ≤ index
  pub same : any_beside test (drop (index - 1) xs) ≡ any_beside test xs

pair_at : {X : Type 0} (xs : List X) (place : ℕ) (d : X) → suc place < length xs → drop place xs ≡ slice_index_or xs place d ∷ slice_index_or xs (suc place) d ∷ drop (suc (suc place)) xs
pair_at [] place d lt = absurd (omega (arith, lt))
pair_at (x ∷ []) place d lt = absurd (omega (arith, lt))
pair_at (x ∷ y ∷ xs) zero d lt = refl
pair_at (x ∷ y ∷ xs) (suc place) d lt = pair_at (y ∷ xs) place d (omega (arith, lt))

next_at : {X : Type 0} (xs : List X) (place : ℕ) (d : X) → suc place < length xs → drop (suc place) xs ≡ slice_index_or xs (suc place) d ∷ drop (suc (suc place)) xs
next_at [] place d lt = absurd (omega (arith, lt))
next_at (x ∷ []) place d lt = absurd (omega (arith, lt))
next_at (x ∷ y ∷ xs) zero d lt = refl
next_at (x ∷ y ∷ xs) (suc place) d lt = next_at (y ∷ xs) place d (omega (arith, lt))

one_left : {X : Type 0} (test : X → X → Bool) (xs : List X) (place : ℕ) → length xs ≤ suc place → any_beside test (drop place xs) ≡ false
one_left test [] zero le = refl
one_left test [] (suc place) le = refl
one_left test (x ∷ []) zero le = refl
one_left test (x ∷ y ∷ xs) zero le = absurd (omega (arith, le))
one_left test (x ∷ xs) (suc place) le = one_left test xs place (omega (arith, le))

-- a place that is there needs no default
item_is : {X : Type 0} (xs : List X) (place : ℕ) (d e : X) → place < length xs → slice_index_or xs place d ≡ slice_index_or xs place e
item_is [] place d e lt = absurd (omega (arith, lt))
item_is (x ∷ xs) zero d e lt = refl
item_is (x ∷ xs) (suc place) d e lt = item_is xs place d e (omega (arith, lt))

module _ {X : Type 0} (test : X → X → Bool) (xs : List X) where
  -- the answer for the items before and at a place
  pub answer_for : (index : ℕ) → index < length xs → (a b u v : X) → a ≡ slice_index_or xs (index - 1) a → b ≡ slice_index_or xs index b → u ≡ a → v ≡ b → (answer : Bool) → answer ≡ test u v
      → answer ≡ test (slice_index_or xs (index - 1) b) (slice_index_or xs index b)
  answer_for index lt a b u v a_is b_is u_is v_is answer is =
      is ∙ ap (λ (x : X). test x v) (u_is ∙ a_is ∙ item_is xs (index - 1) a b (omega (arith, lt))) ∙ ap (test (slice_index_or xs (index - 1) b)) (v_is ∙ b_is)

  pub past_none : IsPast test xs 1
  past_none = record { low = omega arith; same = refl }

  module _ (d : X) where
    -- the items before and at a place
    pair_there : (index : ℕ) → 1 ≤ index → index < length xs
        → any_beside test (drop (index - 1) xs) ≡ test (slice_index_or xs (index - 1) d) (slice_index_or xs index d) || any_beside test (drop index xs)
    pair_there zero low lt = absurd (omega (arith, low))
    pair_there (suc place) low lt = by (suc place - 1) (omega arith) where
      by : (before : ℕ) → before ≡ place → any_beside test (drop before xs) ≡ test (slice_index_or xs before d) (slice_index_or xs (suc place) d) || any_beside test (drop (suc place) xs)
      by before is =
          subst (λ (n : ℕ). any_beside test (drop n xs) ≡ test (slice_index_or xs n d) (slice_index_or xs (suc place) d) || any_beside test (drop (suc place) xs)) (sym is)
          (ap (any_beside test) (pair_at xs place d lt) ∙ ap (λ (l : List X). test (slice_index_or xs place d) (slice_index_or xs (suc place) d) || any_beside test l) (sym (next_at xs place d lt)))

    module _ (index : ℕ) (is : IsPast test xs index) (lt : index < length xs) (answer : Bool) (answer_is : answer ≡ test (slice_index_or xs (index - 1) d) (slice_index_or xs index d)) where
      decides : any_beside test xs ≡ answer || any_beside test (drop index xs)
      decides = sym is.same ∙ pair_there index is.low lt ∙ ap (λ (b : Bool). b || any_beside test (drop index xs)) (sym answer_is)

      pub found_beside : answer ≡ true → any_beside test xs ≡ true
      found_beside e = decides ∙ ap (λ (b : Bool). b || any_beside test (drop index xs)) e

      pub past_one : answer ≡ false → IsPast test xs (index + 1)
      past_one e =
          let before : index ≡ index + 1 - 1 = omega arith in
          record { low = omega arith; same = sym (decides ∙ ap (λ (b : Bool). b || any_beside test (drop index xs)) e ∙ ap (λ (n : ℕ). any_beside test (drop n xs)) before) }

  pub none_beside : (index : ℕ) → IsPast test xs index → length xs ≤ index → any_beside test xs ≡ false
  none_beside zero is le = absurd (let low = is.low in omega (arith, low))
  none_beside (suc place) is le =
      let before : suc place - 1 ≡ place = omega arith in
      sym is.same ∙ ap (λ (n : ℕ). any_beside test (drop n xs)) before ∙ one_left test xs place le
