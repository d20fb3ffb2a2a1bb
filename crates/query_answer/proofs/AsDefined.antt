-- Sorting and grouping by padded keys are the definition's, on rows with a value for each key.
use Rattle.std.proofs.Common.{◌≡◌, refl, sym, ap, ◌∙◌, ℕ, zero, suc, ◌+◌, Bool, true, false, cond, List, [], ◌∷◌, ◌++◌, map, length, arith}
use Rattle.std.specs.Prelude.{Some, slice_get, unwrap_or}
use Rattle.std.specs.List.{AllByRecursion}
use Rattle.std.specs.Ordering.{is_gt, ordering_then}
use Rattle.std.specs.declared.cmp.Ordering.{Ordering}
use Rattle.sqlval.specs.Lists.{groups, keys_cmp, onto_group, placed, sorted}
use Rattle.sqlval.specs.declared.value.Value.{Value}
use Rattle.sqlval.specs.declared.value.Value.TheVariants.{Null}
use Rattle.query_answer.specs.Sorting.{by_values, key_of, ordered, padded}
use Rattle.query_answer.specs.declared.sorting.SortOrder.{SortOrder}

-- ---- orders that agree on a list's items

module _ {X Y : Type 0} (f : X → Y) (P : X → Type 0) (R : Y → Y → Ordering) (S : X → X → Ordering) (agree : (x y : X) → P x → P y → R (f x) (f y) ≡ S x y) where
  pub all_placed : (x : X) (xs : List X) → P x → AllByRecursion P xs → AllByRecursion P (placed S x xs)
  all_placed x [] p h = (p, tt)
  all_placed x (y ∷ ys) p h = by (all_placed x ys p h.1) (is_gt (S x y))
    where
      by : AllByRecursion P (placed S x ys) → (b : Bool) → AllByRecursion P (cond b (y ∷ placed S x ys) (x ∷ y ∷ ys))
      by rest true = (h.0, rest)
      by rest false = (p, h)

  pub all_sorted : (xs : List X) → AllByRecursion P xs → AllByRecursion P (sorted S xs)
  all_sorted [] h = tt
  all_sorted (x ∷ xs) h = all_placed x (sorted S xs) h.0 (all_sorted xs h.1)

  placed_as : (x : X) (xs : List X) → P x → AllByRecursion P xs → map f (placed S x xs) ≡ placed R (f x) (map f xs)
  placed_as x [] p h = refl
  placed_as x (y ∷ ys) p h = by (placed_as x ys p h.1) (is_gt (S x y)) ∙ ap (λ o. cond (is_gt o) (f y ∷ placed R (f x) (map f ys)) (f x ∷ f y ∷ map f ys)) (sym (agree x y p h.0))
    where
      by : map f (placed S x ys) ≡ placed R (f x) (map f ys) → (b : Bool) → map f (cond b (y ∷ placed S x ys) (x ∷ y ∷ ys)) ≡ cond b (f y ∷ placed R (f x) (map f ys)) (f x ∷ f y ∷ map f ys)
      by rest true = ap (λ zs. f y ∷ zs) rest
      by rest false = refl

  pub sorted_as : (xs : List X) → AllByRecursion P xs → map f (sorted S xs) ≡ sorted R (map f xs)
  sorted_as [] h = refl
  sorted_as (x ∷ xs) h = placed_as x (sorted S xs) h.0 (all_sorted xs h.1) ∙ ap (placed R (f x)) (sorted_as xs h.1)

-- ---- keys

at_end : (us : List Value) (v : Value) (vs : List Value) → slice_get (us ++ v ∷ vs) (length us) ≡ Some v
at_end [] v vs = refl
at_end (u ∷ us) v vs = at_end us v vs

one_longer : (us : List Value) (v : Value) → length (us ++ v ∷ []) ≡ length us + 1
one_longer [] v = refl
one_longer (u ∷ us) v = let h : length (us ++ v ∷ []) ≡ length us + 1 = one_longer us v in omega (arith, h)

regrouped : (us : List Value) (v : Value) (vs : List Value) → us ++ v ∷ vs ≡ (us ++ v ∷ []) ++ vs
regrouped [] v vs = refl
regrouped (u ∷ us) v vs = ap (λ xs. u ∷ xs) (regrouped us v vs)

less_one : (m n : ℕ) → suc m ≡ suc n → m ≡ n
less_one m n h = omega (arith, h)

none_left : {A : Type 0} (n : ℕ) → zero ≡ suc n → A
none_left n h = absurd (omega (arith, h))

values_from : (ks : List SortOrder) (us xs vs ws : List Value) (i : ℕ) → i ≡ length us → i ≡ length xs → length vs ≡ length ks → length ws ≡ length ks → padded i ks (us ++ vs) (xs ++ ws) ≡ keys_cmp (map key_of ks) vs ws
values_from [] us xs vs ws i h k l m = refl
values_from (o ∷ ks) us xs [] ws i h k l m = none_left (length ks) l
values_from (o ∷ ks) us xs (v ∷ vs) [] i h k l m = none_left (length ks) m
values_from (o ∷ ks) us xs (v ∷ vs) (w ∷ ws) i h k l m =
    (λ j. ordering_then (ordered o (unwrap_or (left j) Null) (unwrap_or (right j) Null)) (padded (i + 1) ks (regrouped us v vs j) (regrouped xs w ws j)))
    ∙ ap (ordering_then (ordered o v w)) (values_from ks (us ++ v ∷ []) (xs ++ w ∷ []) vs ws (i + 1) (ap (λ n. n + 1) h ∙ sym (one_longer us v)) (ap (λ n. n + 1) k ∙ sym (one_longer xs w)) (less_one (length vs) (length ks) l) (less_one (length ws) (length ks) m))
  where
    left : slice_get (us ++ v ∷ vs) i ≡ Some v
    left = ap (slice_get (us ++ v ∷ vs)) h ∙ at_end us v vs

    right : slice_get (xs ++ w ∷ ws) i ≡ Some w
    right = ap (slice_get (xs ++ w ∷ ws)) k ∙ at_end xs w ws

pub as_keys : (ks : List SortOrder) (vs ws : List Value) → length vs ≡ length ks → length ws ≡ length ks → keys_cmp (map key_of ks) vs ws ≡ by_values ks vs ws
as_keys ks vs ws h k = sym (values_from ks [] [] vs ws 0 refl refl h k)

-- ---- groups

module _ {X : Type 0} (P : X → Type 0) (s z : X → X → Bool) (agree : (x y : X) → P x → P y → s x y ≡ z x y) where
  onto_all : (x : X) (gs : List (List X)) → P x → AllByRecursion (AllByRecursion P) gs → AllByRecursion (AllByRecursion P) (onto_group s x gs)
  onto_all x [] p h = ((p, tt), tt)
  onto_all x ([] ∷ gs) p h = ((p, tt), h.1)
  onto_all x ((y ∷ ys) ∷ gs) p h = by (s x y)
    where
      by : (b : Bool) → AllByRecursion (AllByRecursion P) (cond b ((x ∷ y ∷ ys) ∷ gs) ((x ∷ []) ∷ (y ∷ ys) ∷ gs))
      by true = ((p, h.0), h.1)
      by false = ((p, tt), h)

  groups_all : (xs : List X) → AllByRecursion P xs → AllByRecursion (AllByRecursion P) (groups s xs)
  groups_all [] h = tt
  groups_all (x ∷ xs) h = onto_all x (groups s xs) h.0 (groups_all xs h.1)

  pub onto_as : (x : X) (gs : List (List X)) → P x → AllByRecursion (AllByRecursion P) gs → onto_group s x gs ≡ onto_group z x gs
  onto_as x [] p h = refl
  onto_as x ([] ∷ gs) p h = refl
  onto_as x ((y ∷ ys) ∷ gs) p h = ap (λ b. cond b ((x ∷ y ∷ ys) ∷ gs) ((x ∷ []) ∷ (y ∷ ys) ∷ gs)) (agree x y p h.0.0)

  pub groups_as : (xs : List X) → AllByRecursion P xs → groups s xs ≡ groups z xs
  groups_as [] h = refl
  groups_as (x ∷ xs) h = onto_as x (groups s xs) h.0 (groups_all xs h.1) ∙ ap (onto_group z x) (groups_as xs h.1)

pub each_itself : {X : Type 0} (xs : List X) → map (λ x. x) xs ≡ xs
each_itself [] = refl
each_itself (x ∷ xs) = ap (λ ys. x ∷ ys) (each_itself xs)

-- rows that carry more are sorted as what is seen of them
all_of_any : {X : Type 0} (xs : List X) → AllByRecursion (λ x. Unit {0}) xs
all_of_any [] = tt
all_of_any (x ∷ xs) = (tt, all_of_any xs)

pub sorted_seen : {X Y : Type 0} (view : X → Y) (R : Y → Y → Ordering) (xs : List X) → map view (sorted (λ x y. R (view x) (view y)) xs) ≡ sorted R (map view xs)
sorted_seen {X} view R xs = sorted_as view (λ (x : X). Unit {0}) R (λ x y. R (view x) (view y)) (λ x y p q. refl) xs (all_of_any xs)
