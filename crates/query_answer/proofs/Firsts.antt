-- Rows told apart by sorting them.
use Rattle.std.proofs.Common.{◌≡◌, refl, sym, ap, ◌∙◌, Bool, true, false, not, cond, List, [], ◌∷◌, filter, map}
use mathlib.Core.Bool.{true≢false}
use Rattle.std.specs.Cmp.{IsTotalOrder}
use Rattle.std.specs.List.{AllByRecursion}
use Rattle.std.specs.Ordering.{is_eq, is_gt, ordering_reverse}
use Rattle.std.specs.declared.cmp.Ordering.{Ordering}
use Rattle.std.specs.declared.cmp.Ordering.TheVariants.{Less, Equal, Greater}
use Rattle.sqlval.specs.Lists.{distinct, placed, sorted}

-- ---- filters

with_first : {X : Type 0} (p : X → Bool) (x : X) (xs : List X) → p x ≡ true → filter p (x ∷ xs) ≡ x ∷ filter p xs
with_first p x xs h = ap (λ b. cond b (x ∷ filter p xs) (filter p xs)) h

without_first : {X : Type 0} (p : X → Bool) (x : X) (xs : List X) → p x ≡ false → filter p (x ∷ xs) ≡ filter p xs
without_first p x xs h = ap (λ b. cond b (x ∷ filter p xs) (filter p xs)) h

module _ {X : Type 0} (p q : X → Bool) where
  pub swapped : (xs : List X) → filter p (filter q xs) ≡ filter q (filter p xs)
  swapped [] = refl
  swapped (x ∷ xs) = by (p x) refl (q x) refl (swapped xs)
    where
      by : (b : Bool) → p x ≡ b → (c : Bool) → q x ≡ c → filter p (filter q xs) ≡ filter q (filter p xs) → filter p (cond (q x) (x ∷ filter q xs) (filter q xs)) ≡ filter q (cond (p x) (x ∷ filter p xs) (filter p xs))
      by true e true f rest =
          ap (λ c. filter p (cond c (x ∷ filter q xs) (filter q xs))) f
          ∙ (ap (λ b. cond b (x ∷ filter p (filter q xs)) (filter p (filter q xs))) e
          ∙ (ap (λ ys. x ∷ ys) rest
          ∙ (sym (ap (λ c. cond c (x ∷ filter q (filter p xs)) (filter q (filter p xs))) f) ∙ sym (ap (λ b. filter q (cond b (x ∷ filter p xs) (filter p xs))) e))))
      by true e false f rest =
          ap (λ c. filter p (cond c (x ∷ filter q xs) (filter q xs))) f
          ∙ (rest ∙ (sym (ap (λ c. cond c (x ∷ filter q (filter p xs)) (filter q (filter p xs))) f) ∙ sym (ap (λ b. filter q (cond b (x ∷ filter p xs) (filter p xs))) e)))
      by false e true f rest =
          ap (λ c. filter p (cond c (x ∷ filter q xs) (filter q xs))) f
          ∙ (ap (λ b. cond b (x ∷ filter p (filter q xs)) (filter p (filter q xs))) e ∙ (rest ∙ sym (ap (λ b. filter q (cond b (x ∷ filter p xs) (filter p xs))) e)))
      by false e false f rest =
          ap (λ c. filter p (cond c (x ∷ filter q xs) (filter q xs))) f ∙ (rest ∙ sym (ap (λ b. filter q (cond b (x ∷ filter p xs) (filter p xs))) e))

-- ---- lists that rise

module _ {X : Type 0} (cmp : X → X → Ordering) (o : IsTotalOrder cmp) where
  abbrev tied : X → X → Bool
  tied x y = is_eq (cmp x y)

  abbrev apart : X → X → Bool
  apart x y = not (tied x y)

  upto : (x y z : X) → is_gt (cmp x y) ≡ false → is_gt (cmp y z) ≡ false → is_gt (cmp x z) ≡ false
  upto x y z h k = by (cmp x y) refl (cmp y z) refl
    where
      not_greater : {A : Type 0} (p : Ordering) → is_gt p ≡ false → p ≡ Greater → A
      not_greater p e f = absurd (true≢false (sym (ap is_gt f) ∙ e))

      by : (p : Ordering) → cmp x y ≡ p → (q : Ordering) → cmp y z ≡ q → is_gt (cmp x z) ≡ false
      by Equal e q f = ap is_gt (o.congr x y z e) ∙ k
      by Less e Less f = ap is_gt (o.trans x y z e f)
      by Less e Equal f =
          let back : cmp z x ≡ cmp y x = sym (o.congr y z x f) in
          ap is_gt (o.antisymm x z ∙ (ap ordering_reverse back ∙ sym (o.antisymm x y))) ∙ h
      by Less e Greater f = not_greater (cmp y z) k f
      by Greater e q f = not_greater (cmp x y) h e

  turned : (x y : X) → is_gt (cmp x y) ≡ true → is_gt (cmp y x) ≡ false
  turned x y h = ap is_gt (o.antisymm y x) ∙ by (cmp x y) h
    where
      by : (p : Ordering) → is_gt p ≡ true → is_gt (ordering_reverse p) ≡ false
      by Less e = absurd (true≢false (sym e))
      by Equal e = refl
      by Greater e = refl

  -- none is less than x
  abbrev pub AtLeast : X → List X → Type 0
  AtLeast x [] = Unit {0}
  AtLeast x (y ∷ ys) = (is_gt (cmp x y) ≡ false) × AtLeast x ys

  abbrev pub Rising : List X → Type 0
  Rising [] = Unit {0}
  Rising (x ∷ xs) = AtLeast x xs × Rising xs

  raised : (x y : X) (ys : List X) → is_gt (cmp x y) ≡ false → AtLeast y ys → AtLeast x ys
  raised x y [] h k = tt
  raised x y (z ∷ zs) h k = (upto x y z h k.0, raised x y zs h k.1)

  placed_all : (w x : X) (ys : List X) → is_gt (cmp w x) ≡ false → AtLeast w ys → AtLeast w (placed cmp x ys)
  placed_all w x [] h k = (h, tt)
  placed_all w x (y ∷ ys) h k = by (is_gt (cmp x y)) (placed_all w x ys h k.1)
    where
      by : (b : Bool) → AtLeast w (placed cmp x ys) → AtLeast w (cond b (y ∷ placed cmp x ys) (x ∷ y ∷ ys))
      by true rest = (k.0, rest)
      by false rest = (h, k)

  placed_rises : (x : X) (ys : List X) → Rising ys → Rising (placed cmp x ys)
  placed_rises x [] h = (tt, tt)
  placed_rises x (y ∷ ys) h = by (is_gt (cmp x y)) refl (placed_rises x ys h.1)
    where
      by : (b : Bool) → is_gt (cmp x y) ≡ b → Rising (placed cmp x ys) → Rising (cond b (y ∷ placed cmp x ys) (x ∷ y ∷ ys))
      by true e rest = (placed_all y x ys (turned x y e) h.0, rest)
      by false e rest = ((e, raised x y ys e h.0), h)

  pub sorted_rises : (xs : List X) → Rising (sorted cmp xs)
  sorted_rises [] = tt
  sorted_rises (x ∷ xs) = placed_rises x (sorted cmp xs) (sorted_rises xs)

  first_placed : (x : X) (ys : List X) → AtLeast x ys → placed cmp x ys ≡ x ∷ ys
  first_placed x [] h = refl
  first_placed x (y ∷ ys) h = ap (λ b. cond b (y ∷ placed cmp x ys) (x ∷ y ∷ ys)) h.0

  chosen_all : (p : X → Bool) (x : X) (ys : List X) → AtLeast x ys → AtLeast x (filter p ys)
  chosen_all p x [] h = tt
  chosen_all p x (y ∷ ys) h = by (p y) (chosen_all p x ys h.1)
    where
      by : (b : Bool) → AtLeast x (filter p ys) → AtLeast x (cond b (y ∷ filter p ys) (filter p ys))
      by true rest = (h.0, rest)
      by false rest = rest

  chosen_rises : (p : X → Bool) (ys : List X) → Rising ys → Rising (filter p ys)
  chosen_rises p [] h = tt
  chosen_rises p (y ∷ ys) h = by (p y) (chosen_rises p ys h.1)
    where
      by : (b : Bool) → Rising (filter p ys) → Rising (cond b (y ∷ filter p ys) (filter p ys))
      by true rest = (chosen_all p y ys h.0, rest)
      by false rest = rest

  distinct_all : (same : X → X → Bool) (x : X) (ys : List X) → AtLeast x ys → AtLeast x (distinct same ys)
  distinct_all same x [] h = tt
  distinct_all same x (y ∷ ys) h = (h.0, chosen_all (λ z. not (same y z)) x (distinct same ys) (distinct_all same x ys h.1))

  pub distinct_rises : (same : X → X → Bool) (ys : List X) → Rising ys → Rising (distinct same ys)
  distinct_rises same [] h = tt
  distinct_rises same (y ∷ ys) h = (chosen_all (λ z. not (same y z)) y (distinct same ys) (distinct_all same y ys h.0), chosen_rises (λ z. not (same y z)) (distinct same ys) (distinct_rises same ys h.1))

  -- ---- what is chosen of a sorted list

  placed_later : (x z : X) (zs : List X) → is_gt (cmp x z) ≡ true → placed cmp x (z ∷ zs) ≡ z ∷ placed cmp x zs
  placed_later x z zs h = ap (λ b. cond b (z ∷ placed cmp x zs) (x ∷ z ∷ zs)) h

  placed_here : (x z : X) (zs : List X) → is_gt (cmp x z) ≡ false → placed cmp x (z ∷ zs) ≡ x ∷ z ∷ zs
  placed_here x z zs h = ap (λ b. cond b (z ∷ placed cmp x zs) (x ∷ z ∷ zs)) h

  chosen_with : (p : X → Bool) (x : X) (zs : List X) → p x ≡ true → Rising zs → filter p (placed cmp x zs) ≡ placed cmp x (filter p zs)
  chosen_with p x [] e h = with_first p x [] e
  chosen_with p x (z ∷ zs) e h = by (is_gt (cmp x z)) refl (p z) refl (chosen_with p x zs e h.1)
    where
      by : (b : Bool) → is_gt (cmp x z) ≡ b → (c : Bool) → p z ≡ c → filter p (placed cmp x zs) ≡ placed cmp x (filter p zs) → filter p (placed cmp x (z ∷ zs)) ≡ placed cmp x (filter p (z ∷ zs))
      by true f true g rest =
          ap (filter p) (placed_later x z zs f) ∙ (with_first p z (placed cmp x zs) g ∙ (ap (λ ys. z ∷ ys) rest ∙ (sym (placed_later x z (filter p zs) f) ∙ ap (placed cmp x) (sym (with_first p z zs g)))))
      by true f false g rest = ap (filter p) (placed_later x z zs f) ∙ (without_first p z (placed cmp x zs) g ∙ (rest ∙ ap (placed cmp x) (sym (without_first p z zs g))))
      by false f c g rest =
          ap (filter p) (placed_here x z zs f) ∙ (with_first p x (z ∷ zs) e ∙ sym (first_placed x (filter p (z ∷ zs)) (chosen_all p x (z ∷ zs) (f, raised x z zs f h.0))))

  chosen_without : (p : X → Bool) (x : X) (zs : List X) → p x ≡ false → filter p (placed cmp x zs) ≡ filter p zs
  chosen_without p x [] e = without_first p x [] e
  chosen_without p x (z ∷ zs) e = by (is_gt (cmp x z)) refl (p z) refl (chosen_without p x zs e)
    where
      by : (b : Bool) → is_gt (cmp x z) ≡ b → (c : Bool) → p z ≡ c → filter p (placed cmp x zs) ≡ filter p zs → filter p (placed cmp x (z ∷ zs)) ≡ filter p (z ∷ zs)
      by true f true g rest = ap (filter p) (placed_later x z zs f) ∙ (with_first p z (placed cmp x zs) g ∙ (ap (λ ys. z ∷ ys) rest ∙ sym (with_first p z zs g)))
      by true f false g rest = ap (filter p) (placed_later x z zs f) ∙ (without_first p z (placed cmp x zs) g ∙ (rest ∙ sym (without_first p z zs g)))
      by false f c g rest = ap (filter p) (placed_here x z zs f) ∙ without_first p x (z ∷ zs) e

  chosen_of_sorted : (p : X → Bool) (xs : List X) → filter p (sorted cmp xs) ≡ sorted cmp (filter p xs)
  chosen_of_sorted p [] = refl
  chosen_of_sorted p (x ∷ xs) = by (p x) refl (chosen_of_sorted p xs)
    where
      by : (b : Bool) → p x ≡ b → filter p (sorted cmp xs) ≡ sorted cmp (filter p xs) → filter p (placed cmp x (sorted cmp xs)) ≡ sorted cmp (filter p (x ∷ xs))
      by true e rest = chosen_with p x (sorted cmp xs) e (sorted_rises xs) ∙ (ap (placed cmp x) rest ∙ ap (sorted cmp) (sym (with_first p x xs e)))
      by false e rest = chosen_without p x (sorted cmp xs) e ∙ (rest ∙ ap (sorted cmp) (sym (without_first p x xs e)))

  -- ---- the first of those that tie

  not_tied : (x y : X) → is_gt (cmp x y) ≡ true → apart x y ≡ true
  not_tied x y h = by (cmp x y) h
    where
      by : (p : Ordering) → is_gt p ≡ true → not (is_eq p) ≡ true
      by Less e = absurd (true≢false (sym e))
      by Equal e = absurd (true≢false (sym e))
      by Greater e = refl

  not_tied_back : (x y : X) → is_gt (cmp x y) ≡ true → apart y x ≡ true
  not_tied_back x y h = ap (λ p. not (is_eq p)) (o.antisymm y x) ∙ by (cmp x y) h
    where
      by : (p : Ordering) → is_gt p ≡ true → not (is_eq (ordering_reverse p)) ≡ true
      by Less e = absurd (true≢false (sym e))
      by Equal e = absurd (true≢false (sym e))
      by Greater e = refl

  distinct_placed : (x : X) (zs : List X) → Rising zs → distinct tied (placed cmp x zs) ≡ placed cmp x (filter (apart x) (distinct tied zs))
  distinct_placed x [] h = refl
  distinct_placed x (z ∷ zs) h = by (is_gt (cmp x z)) refl (distinct_placed x zs h.1)
    where
      by : (b : Bool) → is_gt (cmp x z) ≡ b → distinct tied (placed cmp x zs) ≡ placed cmp x (filter (apart x) (distinct tied zs))
          → distinct tied (placed cmp x (z ∷ zs)) ≡ placed cmp x (filter (apart x) (distinct tied (z ∷ zs)))
      by true e rest =
          ap (distinct tied) (placed_later x z zs e)
          ∙ (ap (λ ys. z ∷ filter (apart z) ys) rest
          ∙ (ap (λ ys. z ∷ ys) (chosen_with (apart z) x (filter (apart x) (distinct tied zs)) (not_tied_back x z e) (chosen_rises (apart x) (distinct tied zs) (distinct_rises tied zs h.1)))
          ∙ (ap (λ ys. z ∷ placed cmp x ys) (swapped (apart z) (apart x) (distinct tied zs))
          ∙ (sym (placed_later x z (filter (apart x) (filter (apart z) (distinct tied zs))) e) ∙ ap (placed cmp x) (sym (with_first (apart x) z (filter (apart z) (distinct tied zs)) (not_tied x z e)))))))
      by false e rest =
          ap (distinct tied) (placed_here x z zs e)
          ∙ sym (first_placed x (filter (apart x) (distinct tied (z ∷ zs))) (chosen_all (apart x) x (distinct tied (z ∷ zs)) (distinct_all tied x (z ∷ zs) (e, raised x z zs e h.0))))

  -- what is told apart after sorting is what is told apart before
  pub distinct_of_sorted : (xs : List X) → distinct tied (sorted cmp xs) ≡ sorted cmp (distinct tied xs)
  distinct_of_sorted [] = refl
  distinct_of_sorted (x ∷ xs) =
      distinct_placed x (sorted cmp xs) (sorted_rises xs)
      ∙ (ap (λ ys. placed cmp x (filter (apart x) ys)) (distinct_of_sorted xs) ∙ ap (placed cmp x) (chosen_of_sorted (apart x) (distinct tied xs)))

  -- ---- neighbours that tie

  -- those that don't tie with the one kept before them
  abbrev pub firsts_after : X → List X → List X
  firsts_after y [] = []
  firsts_after y (x ∷ xs) = cond (tied y x) (firsts_after y xs) (x ∷ firsts_after x xs)

  alike : (x y : X) → tied x y ≡ true → (z : X) → apart y z ≡ apart x z
  alike x y h z = ap (λ p. not (is_eq p)) (sym (o.congr x y z (is_equal (cmp x y) h)))
    where
      is_equal : (p : Ordering) → is_eq p ≡ true → p ≡ Equal
      is_equal Less e = absurd (true≢false (sym e))
      is_equal Equal e = refl
      is_equal Greater e = absurd (true≢false (sym e))

  twice : (p : X → Bool) (xs : List X) → filter p (filter p xs) ≡ filter p xs
  twice p [] = refl
  twice p (x ∷ xs) = by (p x) refl (twice p xs)
    where
      by : (b : Bool) → p x ≡ b → filter p (filter p xs) ≡ filter p xs → filter p (filter p (x ∷ xs)) ≡ filter p (x ∷ xs)
      by true e rest = ap (filter p) (with_first p x xs e) ∙ (with_first p x (filter p xs) e ∙ (ap (λ ys. x ∷ ys) rest ∙ sym (with_first p x xs e)))
      by false e rest = ap (filter p) (without_first p x xs e) ∙ (rest ∙ sym (without_first p x xs e))

  -- past something that is past y, none ties with y
  all_apart : (y x : X) (zs : List X) → is_gt (cmp y x) ≡ false → apart y x ≡ true → AtLeast x zs → filter (apart y) zs ≡ zs
  all_apart y x [] h k up = refl
  all_apart y x (z ∷ zs) h k up = with_first (apart y) z zs (by (cmp y x) refl) ∙ ap (λ ys. z ∷ ys) (all_apart y x zs h k up.1)
    where
      by : (p : Ordering) → cmp y x ≡ p → apart y z ≡ true
      by Equal e = absurd (true≢false (sym k ∙ ap (λ p. not (is_eq p)) e))
      by Greater e = absurd (true≢false (sym (ap is_gt e) ∙ h))
      by Less e = further (cmp x z) refl
        where
          further : (q : Ordering) → cmp x z ≡ q → apart y z ≡ true
          further Less f = ap (λ p. not (is_eq p)) (o.trans y x z e f)
          further Equal f = ap (λ p. not (is_eq p)) (o.antisymm y z ∙ (ap ordering_reverse (sym (o.congr x z y f)) ∙ (sym (o.antisymm y x) ∙ e)))
          further Greater f = absurd (true≢false (sym (ap is_gt f) ∙ up.0))

  pub firsts_are : (y : X) (xs : List X) → Rising (y ∷ xs) → y ∷ firsts_after y xs ≡ distinct tied (y ∷ xs)
  firsts_are y [] h = refl
  firsts_are y (x ∷ xs) h = by (tied y x) refl (firsts_are y xs (h.0.1, h.1.1)) (firsts_are x xs h.1)
    where
      by : (b : Bool) → tied y x ≡ b → y ∷ firsts_after y xs ≡ distinct tied (y ∷ xs) → x ∷ firsts_after x xs ≡ distinct tied (x ∷ xs)
          → y ∷ cond (tied y x) (firsts_after y xs) (x ∷ firsts_after x xs) ≡ y ∷ filter (apart y) (x ∷ filter (apart x) (distinct tied xs))
      by true e rest other =
          ap (λ b. y ∷ cond b (firsts_after y xs) (x ∷ firsts_after x xs)) e
          ∙ (rest
          ∙ (ap (λ ys. y ∷ ys) (sym (twice (apart y) (distinct tied xs)) ∙ (λ i. filter (apart y) (filter (λ z. sym (alike y x e z) i) (distinct tied xs))))
          ∙ ap (λ ys. y ∷ ys) (sym (without_first (apart y) x (filter (apart x) (distinct tied xs)) (ap not e)))))
      by false e rest other =
          ap (λ b. y ∷ cond b (firsts_after y xs) (x ∷ firsts_after x xs)) e
          ∙ (ap (λ ys. y ∷ ys) other
          ∙ (ap (λ ys. y ∷ x ∷ ys) (sym (all_apart y x (filter (apart x) (distinct tied xs)) h.0.0 (ap not e) (chosen_all (apart x) x (distinct tied xs) (distinct_all tied x xs h.1.0))))
          ∙ ap (λ ys. y ∷ ys) (sym (with_first (apart y) x (filter (apart x) (distinct tied xs)) (ap not e)))))

-- ---- back in the order of their numbers

module _ {X : Type 0} (r : X → X → Ordering) where
  -- each comes after z
  abbrev pub Over : X → List X → Type 0
  Over z [] = Unit {0}
  Over z (w ∷ ws) = ((is_gt (r z w) ≡ false) × (is_gt (r w z) ≡ true)) × Over z ws

  abbrev pub Ascending : List X → Type 0
  Ascending [] = Unit {0}
  Ascending (z ∷ zs) = Over z zs × Ascending zs

  over_placed : (s : X → X → Ordering) (z x : X) (ws : List X) → (is_gt (r z x) ≡ false) × (is_gt (r x z) ≡ true) → Over z ws → Over z (placed s x ws)
  over_placed s z x [] h k = (h, tt)
  over_placed s z x (w ∷ ws) h k = by (is_gt (s x w)) (over_placed s z x ws h k.1)
    where
      by : (b : Bool) → Over z (placed s x ws) → Over z (cond b (w ∷ placed s x ws) (x ∷ w ∷ ws))
      by true rest = (k.0, rest)
      by false rest = (h, k)

  over_sorted : (s : X → X → Ordering) (z : X) (ws : List X) → Over z ws → Over z (sorted s ws)
  over_sorted s z [] h = tt
  over_sorted s z (w ∷ ws) h = over_placed s z w (sorted s ws) h.0 (over_sorted s z ws h.1)

  first_over : (z : X) (ws : List X) → Over z ws → placed r z ws ≡ z ∷ ws
  first_over z [] h = refl
  first_over z (w ∷ ws) h = ap (λ b. cond b (w ∷ placed r z ws) (z ∷ w ∷ ws)) h.0.0

  placed_anywhere : (s : X → X → Ordering) (z : X) (ws : List X) → Over z ws → sorted r (placed s z ws) ≡ z ∷ sorted r ws
  placed_anywhere s z [] h = refl
  placed_anywhere s z (w ∷ ws) h = by (is_gt (s z w)) (placed_anywhere s z ws h.1)
    where
      by : (b : Bool) → sorted r (placed s z ws) ≡ z ∷ sorted r ws → sorted r (cond b (w ∷ placed s z ws) (z ∷ w ∷ ws)) ≡ z ∷ placed r w (sorted r ws)
      by true rest = ap (placed r w) rest ∙ ap (λ b. cond b (z ∷ placed r w (sorted r ws)) (w ∷ z ∷ sorted r ws)) h.0.1
      by false rest = first_over z (sorted r (w ∷ ws)) (over_sorted r z (w ∷ ws) h)

  -- what ascends is found again, however it was sorted
  pub sorted_back : (s : X → X → Ordering) (zs : List X) → Ascending zs → sorted r (sorted s zs) ≡ zs
  sorted_back s [] h = refl
  sorted_back s (z ∷ zs) h = placed_anywhere s z (sorted s zs) (over_sorted s z zs h.0) ∙ ap (λ ys. z ∷ ys) (sorted_back s zs h.1)

  over_chosen : (p : X → Bool) (z : X) (ws : List X) → Over z ws → Over z (filter p ws)
  over_chosen p z [] h = tt
  over_chosen p z (w ∷ ws) h = by (p w) (over_chosen p z ws h.1)
    where
      by : (b : Bool) → Over z (filter p ws) → Over z (cond b (w ∷ filter p ws) (filter p ws))
      by true rest = (h.0, rest)
      by false rest = rest

  ascending_chosen : (p : X → Bool) (ws : List X) → Ascending ws → Ascending (filter p ws)
  ascending_chosen p [] h = tt
  ascending_chosen p (w ∷ ws) h = by (p w) (ascending_chosen p ws h.1)
    where
      by : (b : Bool) → Ascending (filter p ws) → Ascending (cond b (w ∷ filter p ws) (filter p ws))
      by true rest = (over_chosen p w ws h.0, rest)
      by false rest = rest

  over_distinct : (same : X → X → Bool) (z : X) (ws : List X) → Over z ws → Over z (distinct same ws)
  over_distinct same z [] h = tt
  over_distinct same z (w ∷ ws) h = (h.0, over_chosen (λ y. not (same w y)) z (distinct same ws) (over_distinct same z ws h.1))

  pub ascending_distinct : (same : X → X → Bool) (ws : List X) → Ascending ws → Ascending (distinct same ws)
  ascending_distinct same [] h = tt
  ascending_distinct same (w ∷ ws) h =
      (over_chosen (λ y. not (same w y)) w (distinct same ws) (over_distinct same w ws h.0), ascending_chosen (λ y. not (same w y)) (distinct same ws) (ascending_distinct same ws h.1))

-- ---- items seen in another way

module _ {X Y : Type 0} (f : X → Y) where
  chosen_of : (p : Y → Bool) (xs : List X) → map f (filter (λ x. p (f x)) xs) ≡ filter p (map f xs)
  chosen_of p [] = refl
  chosen_of p (x ∷ xs) = by (p (f x)) (chosen_of p xs)
    where
      by : (b : Bool) → map f (filter (λ y. p (f y)) xs) ≡ filter p (map f xs) → map f (cond b (x ∷ filter (λ y. p (f y)) xs) (filter (λ y. p (f y)) xs)) ≡ cond b (f x ∷ filter p (map f xs)) (filter p (map f xs))
      by true rest = ap (λ ys. f x ∷ ys) rest
      by false rest = rest

  pub distinct_seen : (same : Y → Y → Bool) (xs : List X) → map f (distinct (λ x y. same (f x) (f y)) xs) ≡ distinct same (map f xs)
  distinct_seen same [] = refl
  distinct_seen same (x ∷ xs) = ap (λ ys. f x ∷ ys) (chosen_of (λ y. not (same (f x) y)) (distinct (λ x y. same (f x) (f y)) xs) ∙ ap (filter (λ y. not (same (f x) y))) (distinct_seen same xs))

-- ---- tests that agree on a list's items

module _ {X : Type 0} (P : X → Type 0) where
  all_chosen : (p : X → Bool) (xs : List X) → AllByRecursion P xs → AllByRecursion P (filter p xs)
  all_chosen p [] h = tt
  all_chosen p (x ∷ xs) h = by (p x) (all_chosen p xs h.1)
    where
      by : (b : Bool) → AllByRecursion P (filter p xs) → AllByRecursion P (cond b (x ∷ filter p xs) (filter p xs))
      by true rest = (h.0, rest)
      by false rest = rest

  pub all_distinct : (same : X → X → Bool) (xs : List X) → AllByRecursion P xs → AllByRecursion P (distinct same xs)
  all_distinct same [] h = tt
  all_distinct same (x ∷ xs) h = (h.0, all_chosen (λ y. not (same x y)) (distinct same xs) (all_distinct same xs h.1))

  chosen_as : (p q : X → Bool) → ((x : X) → P x → p x ≡ q x) → (xs : List X) → AllByRecursion P xs → filter p xs ≡ filter q xs
  chosen_as p q agree [] h = refl
  chosen_as p q agree (x ∷ xs) h = (λ i. cond (agree x h.0 i) (x ∷ chosen_as p q agree xs h.1 i) (chosen_as p q agree xs h.1 i))

  pub distinct_as : (s z : X → X → Bool) → ((x y : X) → P x → P y → s x y ≡ z x y) → (xs : List X) → AllByRecursion P xs → distinct s xs ≡ distinct z xs
  distinct_as s z agree [] h = refl
  distinct_as s z agree (x ∷ xs) h =
      ap (λ ys. x ∷ ys) (chosen_as (λ y. not (s x y)) (λ y. not (z x y)) (λ y p. ap not (agree x y h.0 p)) (distinct s xs) (all_distinct s xs h.1)
      ∙ ap (filter (λ y. not (z x y))) (distinct_as s z agree xs h.1))
