-- Runs of neighbours that are the same, one after another.
use Rattle.std.proofs.Common.{◌≡◌, refl, sym, ap, ◌∙◌, subst, ℕ, zero, suc, ◌+◌, ◌<◌, Bool, true, false, cond, List, [], ◌∷◌, length, map, take, drop, slice_index_or, arith}
use Rattle.std.specs.Cmp.{IsEquivalence}
use Rattle.std.specs.List.{prefix_len}
use Rattle.std.proofs.lemmas.List.{at_drop_more}
use Rattle.sqlval.specs.Lists.{groups, onto_group}

-- the front of a list whose items pass, and what follows it
abbrev pub front_while : {X : Type 0} → (X → Bool) → List X → List X
front_while p [] = []
front_while p (x ∷ xs) = cond (p x) (x ∷ front_while p xs) []

abbrev pub after_while : {X : Type 0} → (X → Bool) → List X → List X
after_while p [] = []
after_while p (x ∷ xs) = cond (p x) (after_while p xs) (x ∷ xs)

first_of_runs : {X : Type 0} (same : X → X → Bool) → IsEquivalence same → (x : X) (xs : List X) → groups same (x ∷ xs) ≡ (x ∷ front_while (same x) xs) ∷ groups same (after_while (same x) xs)
first_of_runs same e x [] = refl
first_of_runs {X} same e x (y ∷ ys) = ap (onto_group same x) (first_of_runs same e y ys) ∙ by (same x y) refl (first_of_runs same e y ys)
  where
    by : (b : Bool) → same x y ≡ b → groups same (y ∷ ys) ≡ (y ∷ front_while (same y) ys) ∷ groups same (after_while (same y) ys)
        → cond (same x y) ((x ∷ y ∷ front_while (same y) ys) ∷ groups same (after_while (same y) ys)) ((x ∷ []) ∷ (y ∷ front_while (same y) ys) ∷ groups same (after_while (same y) ys))
        ≡ (x ∷ front_while (same x) (y ∷ ys)) ∷ groups same (after_while (same x) (y ∷ ys))
    by true h rest =
        ap (λ b. cond b ((x ∷ y ∷ front_while (same y) ys) ∷ groups same (after_while (same y) ys)) ((x ∷ []) ∷ (y ∷ front_while (same y) ys) ∷ groups same (after_while (same y) ys))) h
        ∙ ((λ i. (x ∷ y ∷ front_while (alike i) ys) ∷ groups same (after_while (alike i) ys))
        ∙ sym (ap (λ b. (x ∷ cond b (y ∷ front_while (same x) ys) []) ∷ groups same (cond b (after_while (same x) ys) (y ∷ ys))) h))
      where
        alike : same y ≡ same x
        alike = λ i z. sym (e.congr x y z h) i
    by false h rest =
        ap (λ b. cond b ((x ∷ y ∷ front_while (same y) ys) ∷ groups same (after_while (same y) ys)) ((x ∷ []) ∷ (y ∷ front_while (same y) ys) ∷ groups same (after_while (same y) ys))) h
        ∙ (ap (λ gs. (x ∷ []) ∷ gs) (sym rest)
        ∙ sym (ap (λ b. (x ∷ cond b (y ∷ front_while (same x) ys) []) ∷ groups same (cond b (after_while (same x) ys) (y ∷ ys))) h))

one_more : (n : ℕ) → 1 + n ≡ suc n
one_more n = omega arith

taken : {X : Type 0} (p : X → Bool) (xs : List X) → take (prefix_len p xs) xs ≡ front_while p xs
taken p [] = refl
taken {X} p (x ∷ xs) = by (p x) (taken p xs)
  where
    by : (b : Bool) → take (prefix_len p xs) xs ≡ front_while p xs → take (cond b (1 + prefix_len p xs) 0) (x ∷ xs) ≡ cond b (x ∷ front_while p xs) []
    by true rest = ap (λ n. take n (x ∷ xs)) (one_more (prefix_len p xs)) ∙ ap (λ ys. x ∷ ys) rest
    by false rest = refl

dropped : {X : Type 0} (p : X → Bool) (xs : List X) → drop (prefix_len p xs) xs ≡ after_while p xs
dropped p [] = refl
dropped {X} p (x ∷ xs) = by (p x) (dropped p xs)
  where
    by : (b : Bool) → drop (prefix_len p xs) xs ≡ after_while p xs → drop (cond b (1 + prefix_len p xs) 0) (x ∷ xs) ≡ cond b (after_while p xs) (x ∷ xs)
    by true rest = ap (λ n. drop n (x ∷ xs)) (one_more (prefix_len p xs)) ∙ rest
    by false rest = refl

none_left : {X : Type 0} (m : ℕ) → drop m [] ≡ let l : List X = [] in l
none_left zero = refl
none_left (suc m) = refl

drop_drop : {X : Type 0} (m n : ℕ) (xs : List X) → drop m (drop n xs) ≡ drop (n + m) xs
drop_drop m zero xs = let e : m ≡ 0 + m = omega arith in ap (λ k. drop k xs) e
drop_drop m (suc n) [] = none_left m ∙ sym (none_left (suc n + m))
drop_drop m (suc n) (x ∷ xs) = let e : suc (n + m) ≡ suc n + m = omega arith in subst (λ k. drop m (drop n xs) ≡ drop k (x ∷ xs)) e (drop_drop m n xs)

-- the items of a run from a place on
pub run_items : {X : Type 0} (xs : List X) (start n : ℕ) (d : X) → start < length xs → take (n + 1) (drop start xs) ≡ slice_index_or xs start d ∷ take n (drop (start + 1) xs)
run_items xs start n d lt = let e : n + 1 ≡ suc n = omega arith in at_drop_more (take (n + 1)) xs start d lt ∙ ap (λ m. take m (slice_index_or xs start d ∷ drop (start + 1) xs)) e

-- the first group from a place on is the run there
pub run_at : {X : Type 0} (same : X → X → Bool) → IsEquivalence same → (xs : List X) (start n : ℕ) (d : X) → start < length xs → n ≡ prefix_len (same (slice_index_or xs start d)) (drop (start + 1) xs)
    → groups same (drop start xs) ≡ take (n + 1) (drop start xs) ∷ groups same (drop (start + 1 + n) xs)
run_at {X} same e xs start n d lt h =
    at_drop_more (groups same) xs start d lt
    ∙ (by (slice_index_or xs start d) (drop (start + 1) xs) h
    ∙ (λ i. sym (run_items xs start n d lt) i ∷ groups same (drop_drop n (start + 1) xs i)))
  where
    by : (x : X) (rest : List X) → n ≡ prefix_len (same x) rest → groups same (x ∷ rest) ≡ (x ∷ take n rest) ∷ groups same (drop n rest)
    by x rest k = first_of_runs same e x rest ∙ (λ i. (x ∷ sym (ap (λ m. take m rest) k ∙ taken (same x) rest) i) ∷ groups same (sym (ap (λ m. drop m rest) k ∙ dropped (same x) rest) i))

-- ---- items seen in another way

module _ {X Y : Type 0} (f : X → Y) (same : Y → Y → Bool) where
  onto_seen : (x : X) (gs : List (List X)) → map (map f) (onto_group (λ y z. same (f y) (f z)) x gs) ≡ onto_group same (f x) (map (map f) gs)
  onto_seen x [] = refl
  onto_seen x ([] ∷ gs) = refl
  onto_seen x ((y ∷ ys) ∷ gs) = by (same (f x) (f y))
    where
      by : (b : Bool) → map (map f) (cond b ((x ∷ y ∷ ys) ∷ gs) ((x ∷ []) ∷ (y ∷ ys) ∷ gs)) ≡ cond b ((f x ∷ f y ∷ map f ys) ∷ map (map f) gs) ((f x ∷ []) ∷ (f y ∷ map f ys) ∷ map (map f) gs)
      by true = refl
      by false = refl

  pub groups_seen : (xs : List X) → map (map f) (groups (λ y z. same (f y) (f z)) xs) ≡ groups same (map f xs)
  groups_seen [] = refl
  groups_seen (x ∷ xs) = onto_seen x (groups (λ y z. same (f y) (f z)) xs) ∙ ap (onto_group same (f x)) (groups_seen xs)
