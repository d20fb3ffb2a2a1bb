-- Places told apart by the results of their rows, put back in their order, and the rows at them.
use Rattle.std.proofs.Common.{◌≡◌, refl, sym, ap, ◌∙◌, subst, ℕ, zero, suc, ◌+◌, ◌-◌, ◌<◌, ◌≤◌, Bool, true, false, not, cond, List, [], ◌∷◌, ◌++◌, length, take, drop, filter, map, Option, arith, append_assoc, slice_index_or}
use Rattle.std.specs.Prelude.{Some, None, slice_get, if◌then◌else◌}
use Rattle.std.specs.Cmp.{IsTotalOrder}
use Rattle.std.proofs.lemmas.Cmp.{on_total}
use Rattle.std.proofs.lemmas.Option.{slice_get-get_or}
use Rattle.std.specs.List.{SwappedAt, range_with_len}
use Rattle.std.specs.Ordering.{is_eq, is_gt, nat_cmp}
use Rattle.std.specs.declared.cmp.Ordering.{Ordering}
use Rattle.sqlval.specs.Lists.{distinct, sorted}
use Rattle.query_answer.specs.Numbers.{AreRisingPlaces, by_places, have_same_results, kept_after, kept_with, results_of, tie_at}
use Rattle.query_answer.specs.Sorting.{by_values}
use Rattle.query_answer.specs.declared.results.FoundRow.{FoundRow}
use Rattle.query_answer.specs.declared.sorting.SortOrder.{SortOrder}
use Rattle.query_answer.proofs.Firsts.{Ascending, Over, Rising, ascending_distinct, distinct_of_sorted, distinct_seen, firsts_after, firsts_are, sorted_back, sorted_rises}
use Rattle.query_answer.proofs.KeyOrders.{by_keys}
use Rattle.query_answer.proofs.PlacesOfRows.{range_more}

pub places_total : (orders : List SortOrder) (rows : List FoundRow) → IsTotalOrder (by_places orders rows)
places_total orders rows = on_total (λ i. results_of (slice_get rows i)) (by_keys 0 orders)

-- ---- the first of neighbours

at_end : (us : List ℕ) (v : ℕ) → slice_get (us ++ v ∷ []) (length us) ≡ Some v
at_end [] v = refl
at_end (u ∷ us) v = at_end us v

one_longer : (us : List ℕ) (v : ℕ) → length (us ++ v ∷ []) ≡ suc (length us)
one_longer [] v = refl
one_longer (u ∷ us) v = ap suc (one_longer us v)

last_is : (us : List ℕ) (v : ℕ) → slice_get (us ++ v ∷ []) (length (us ++ v ∷ []) - 1) ≡ Some v
last_is us v = let e : length (us ++ v ∷ []) - 1 ≡ length us = omega (arith, one_longer us v) in ap (slice_get (us ++ v ∷ [])) e ∙ at_end us v

one_kept : (orders : List SortOrder) (rows : List FoundRow) (kept is : List ℕ) (i : ℕ) → kept_after orders rows kept (is ++ i ∷ []) ≡ kept_with orders rows (kept_after orders rows kept is) i
one_kept orders rows kept [] i = refl
one_kept orders rows kept (j ∷ is) i = one_kept orders rows (kept_with orders rows kept j) is i

-- what is kept with one more place
pub one_more_kept : (orders : List SortOrder) (rows : List FoundRow) (kept new is : List ℕ) (i : ℕ) → kept ≡ kept_after orders rows [] is → new ≡ kept_with orders rows kept i → new ≡ kept_after orders rows [] (is ++ i ∷ [])
one_more_kept orders rows kept new is i h k = k ∙ (ap (λ ks. kept_with orders rows ks i) h ∙ sym (one_kept orders rows [] is i))

module _ (orders : List SortOrder) (rows : List FoundRow) where
  abbrev firsts_from : ℕ → List ℕ → List ℕ
  firsts_from = firsts_after (by_places orders rows) (places_total orders rows)

  after : (ks : List ℕ) (j : ℕ) (is : List ℕ) → kept_after orders rows (ks ++ j ∷ []) is ≡ ks ++ j ∷ firsts_from j is
  after ks j [] = refl
  after ks j (i ∷ is) =
      ap (λ o. kept_after orders rows (if (elim o [ None ↦ false | Some k ↦ tie_at orders rows k i ]) then (ks ++ j ∷ []) else ((ks ++ j ∷ []) ++ i ∷ [])) is) (last_is ks j)
      ∙ by (tie_at orders rows j i) (after ks j is) (after (ks ++ j ∷ []) i is)
    where
      by : (b : Bool) → kept_after orders rows (ks ++ j ∷ []) is ≡ ks ++ j ∷ firsts_from j is → kept_after orders rows ((ks ++ j ∷ []) ++ i ∷ []) is ≡ (ks ++ j ∷ []) ++ i ∷ firsts_from i is
          → kept_after orders rows (cond b (ks ++ j ∷ []) ((ks ++ j ∷ []) ++ i ∷ [])) is ≡ ks ++ j ∷ cond b (firsts_from j is) (i ∷ firsts_from i is)
      by true rest other = rest
      by false rest other = other ∙ simp append_assoc

  kept_are : (is : List ℕ) → Rising (by_places orders rows) (places_total orders rows) is → kept_after orders rows [] is ≡ distinct (tie_at orders rows) is
  kept_are [] h = refl
  kept_are (i ∷ is) h = after [] i is ∙ firsts_are (by_places orders rows) (places_total orders rows) i is h

-- ---- places ascend

over : (j a n : ℕ) → j < a → Over nat_cmp j (range_with_len a n)
over j a zero h = tt
over j a (suc n) h = ((not_greater j a h, greater j a h), over j (a + 1) n (omega (arith, h)))
  where
    not_greater : (n m : ℕ) → n < m → is_gt (nat_cmp n m) ≡ false
    not_greater n m h = grind arith

    greater : (n m : ℕ) → n < m → is_gt (nat_cmp m n) ≡ true
    greater n m h = grind arith

ascends : (a n : ℕ) → Ascending nat_cmp (range_with_len a n)
ascends a zero = tt
ascends a (suc n) = (over a (a + 1) n (omega arith), ascends (a + 1) n)

module _ (orders : List SortOrder) (rows : List FoundRow) where
  abbrev compared : ℕ → ℕ → Ordering
  compared = by_places orders rows

  abbrev apart : List ℕ
  apart = distinct (tie_at orders rows) (range_with_len 0 (length rows))

  -- the places of all rows, sorted, thinned and sorted back
  pub told_apart : (places first thin back : List ℕ) → places ≡ range_with_len 0 (length rows) → first ≡ sorted (by_places orders rows) places → thin ≡ kept_after orders rows [] first
      → back ≡ sorted nat_cmp thin → back ≡ distinct (tie_at orders rows) (range_with_len 0 (length rows))
  told_apart places first thin back h k l m =
      m
      ∙ (ap (sorted nat_cmp) (l
      ∙ (ap (kept_after orders rows []) k
      ∙ (kept_are orders rows (sorted compared places) (sorted_rises compared (places_total orders rows) places)
      ∙ (distinct_of_sorted compared (places_total orders rows) places ∙ ap (λ is. sorted compared (distinct (tie_at orders rows) is)) h))))
      ∙ sorted_back nat_cmp compared apart (ascending_distinct nat_cmp (tie_at orders rows) (range_with_len 0 (length rows)) (ascends 0 (length rows))))

-- the same of another list of the same rows
pub seen_apart : (orders : List SortOrder) (found rows : List FoundRow) (places shown : List ℕ) → shown ≡ places → places ≡ distinct (tie_at orders rows) (range_with_len 0 (length rows)) → rows ≡ found
    → shown ≡ distinct (tie_at orders found) (range_with_len 0 (length found))
seen_apart orders found rows places shown h k l = h ∙ (k ∙ ap (λ rs. distinct (tie_at orders rs) (range_with_len 0 (length rs))) l)

-- ---- places rise

lower : (low least high : ℕ) (is : List ℕ) → least ≤ low → AreRisingPlaces low high is → AreRisingPlaces least high is
lower low least high [] le h = tt
lower low least high (i ∷ is) le h = let at = h.0.0 in ((omega (arith, le, at), h.0.1), h.1)

chosen_rise : (p : ℕ → Bool) (low high : ℕ) (is : List ℕ) → AreRisingPlaces low high is → AreRisingPlaces low high (filter p is)
chosen_rise p low high [] h = tt
chosen_rise p low high (i ∷ is) h = by (p i) (chosen_rise p (i + 1) high is h.1)
  where
    by : (b : Bool) → AreRisingPlaces (i + 1) high (filter p is) → AreRisingPlaces low high (cond b (i ∷ filter p is) (filter p is))
    by true rest = (h.0, rest)
    by false rest = let at = h.0.0 in lower (i + 1) low high (filter p is) (omega (arith, at)) rest

distinct_rise : (same : ℕ → ℕ → Bool) (low high : ℕ) (is : List ℕ) → AreRisingPlaces low high is → AreRisingPlaces low high (distinct same is)
distinct_rise same low high [] h = tt
distinct_rise same low high (i ∷ is) h = (h.0, chosen_rise (λ j. not (same i j)) (i + 1) high (distinct same is) (distinct_rise same (i + 1) high is h.1))

all_rise : (a n high : ℕ) → a + n ≤ high → AreRisingPlaces a high (range_with_len a n)
all_rise a zero high le = tt
all_rise a (suc n) high le = ((omega arith, omega (arith, le)), all_rise (a + 1) n high (omega (arith, le)))

pub places_rise : (orders : List SortOrder) (rows : List FoundRow) (places : List ℕ) → places ≡ distinct (tie_at orders rows) (range_with_len 0 (length rows)) → AreRisingPlaces 0 (length rows) places
places_rise orders rows places h = subst (AreRisingPlaces 0 (length rows)) (sym h) (distinct_rise (tie_at orders rows) 0 (length rows) (range_with_len 0 (length rows)) (all_rise 0 (length rows) (length rows) (omega arith)))

-- ---- places of a list

-- the place of this number, and those that follow it
from_place : (ps : List ℕ) (i p : ℕ) → i < length ps → p ≡ slice_index_or ps i 0 → drop i ps ≡ p ∷ drop (i + 1) ps
from_place [] i p lt e = absurd (omega (arith, lt))
from_place (q ∷ ps) zero p lt e = ap (λ r. r ∷ ps) (sym e)
from_place (q ∷ ps) (suc i) p lt e =
    let n : suc (i + 1) ≡ suc i + 1 = omega arith in
    subst (λ m. drop i ps ≡ p ∷ drop m (q ∷ ps)) n (from_place ps i p (omega (arith, lt)) e)

drop_past : (n : ℕ) (ps : List ℕ) → length ps ≤ n → drop n ps ≡ []
drop_past zero [] le = refl
drop_past zero (p ∷ ps) le = absurd (omega (arith, le))
drop_past (suc n) [] le = refl
drop_past (suc n) (p ∷ ps) le = drop_past n ps (omega (arith, le))

few : (low high : ℕ) (ps : List ℕ) → low ≤ high → AreRisingPlaces low high ps → low + length ps ≤ high
few low high [] le h = omega (arith, le)
few low high (p ∷ ps) le h =
    let at = h.0.0 in
    let within = h.0.1 in
    let rest = few (p + 1) high ps (omega (arith, within)) h.1 in
    omega (arith, at, rest)

pub places_fit : (n : ℕ) (ps : List ℕ) → AreRisingPlaces 0 n ps → length ps ≤ n
places_fit n ps h = let e = few 0 n ps (omega arith) h in omega (arith, e)

-- ---- the rows at places

module _ {X : Type 0} where
  -- what stands in front of a place, and what is read at the places from the one of that number on
  abbrev pub read_at : List X → ℕ → List ℕ → List (Option X)
  read_at xs i ps = map (slice_get xs) (range_with_len 0 i) ++ map (slice_get xs) (drop i ps)

  same_items : (xs ys : List X) (i j : ℕ) → i < length xs → j < length ys → ((d : X) → slice_index_or xs i d ≡ slice_index_or ys j d) → slice_get xs i ≡ slice_get ys j
  same_items [] ys i j h k e = absurd (omega (arith, h))
  same_items (x ∷ xs) ys i j h k e = slice_get-get_or (x ∷ xs) i x h ∙ (ap Some (e x) ∙ sym (slice_get-get_or ys j x k))

  map_same : (f g : ℕ → Option X) (low high : ℕ) (is : List ℕ) → ((k : ℕ) → low ≤ k → k < high → f k ≡ g k) → AreRisingPlaces low high is → map f is ≡ map g is
  map_same f g low high [] e h = refl
  map_same f g low high (i ∷ is) e h =
      let at = h.0.0 in
      (λ z. e i h.0.0 h.0.1 z ∷ map_same f g (i + 1) high is (λ k le lt. e k (omega (arith, at, le)) lt) h.1 z)

  map_more : (f : ℕ → Option X) (is : List ℕ) (j : ℕ) → map f (is ++ j ∷ []) ≡ map f is ++ f j ∷ []
  map_more f [] j = refl
  map_more f (i ∷ is) j = ap (λ ys. f i ∷ ys) (map_more f is j)

  joined : (os qs : List (Option X)) (o : Option X) → (os ++ o ∷ []) ++ qs ≡ os ++ o ∷ qs
  joined os qs o = simp append_assoc

  pub one_more_read : (xs ys : List X) (ps : List ℕ) (i p : ℕ) → i < length ps → p ≡ slice_index_or ps i 0 → length ys ≡ length xs → SwappedAt xs ys i p → AreRisingPlaces i (length xs) (drop i ps)
      → read_at ys (i + 1) ps ≡ read_at xs i ps
  one_more_read xs ys ps i p lt is long swapped rising =
      ap (λ js. map (slice_get ys) js ++ map (slice_get ys) (drop (i + 1) ps)) (range_more 0 i i (omega arith))
      ∙ (ap (λ os. os ++ map (slice_get ys) (drop (i + 1) ps)) (map_more (slice_get ys) (range_with_len 0 i) i)
      ∙ ((λ z. (front z ++ here z ∷ []) ++ behind z)
      ∙ (joined (map (slice_get xs) (range_with_len 0 i)) (map (slice_get xs) (drop (i + 1) ps)) (slice_get xs p)
      ∙ ap (λ js. map (slice_get xs) (range_with_len 0 i) ++ map (slice_get xs) js) (sym start))))
    where
      start : drop i ps ≡ p ∷ drop (i + 1) ps
      start = from_place ps i p lt is

      at : AreRisingPlaces i (length xs) (p ∷ drop (i + 1) ps)
      at = subst (AreRisingPlaces i (length xs)) start rising

      elsewhere : (k : ℕ) → (k ≡ i → ⊥) → (k ≡ p → ⊥) → k < length xs → slice_get ys k ≡ slice_get xs k
      elsewhere k h j within = same_items ys xs k k (omega (arith, long, within)) within (λ d. swapped.2 k d h j)

      front : map (slice_get ys) (range_with_len 0 i) ≡ map (slice_get xs) (range_with_len 0 i)
      front =
          let low = at.0.0 in
          let high = at.0.1 in
          map_same (slice_get ys) (slice_get xs) 0 i (range_with_len 0 i) (λ k le below. elsewhere k (λ e. omega (arith, e, below)) (λ e. omega (arith, e, below, low)) (omega (arith, below, low, high))) (all_rise 0 i i (omega arith))

      here : slice_get ys i ≡ slice_get xs p
      here =
          let low = at.0.0 in
          let high = at.0.1 in
          same_items ys xs i p (omega (arith, long, low, high)) high swapped.0

      behind : map (slice_get ys) (drop (i + 1) ps) ≡ map (slice_get xs) (drop (i + 1) ps)
      behind =
          let low = at.0.0 in
          map_same (slice_get ys) (slice_get xs) (p + 1) (length xs) (drop (i + 1) ps) (λ k le within. elsewhere k (λ e. omega (arith, e, le, low)) (λ e. omega (arith, e, le)) within) at.1

  -- where the rows of a place are
  pub place_within : (xs : List X) (ps : List ℕ) (i p : ℕ) → i < length ps → p ≡ slice_index_or ps i 0 → AreRisingPlaces i (length xs) (drop i ps) → ((i ≤ p) × (p < length xs)) × AreRisingPlaces (i + 1) (length xs) (drop (i + 1) ps)
  place_within xs ps i p lt is rising =
      let at = subst (AreRisingPlaces i (length xs)) (from_place ps i p lt is) rising in
      let low = at.0.0 in
      (at.0, lower (p + 1) (i + 1) (length xs) (drop (i + 1) ps) (omega (arith, low)) at.1)

  gets_from : (all xs : List X) (a n : ℕ) → ((i : ℕ) → slice_get all (a + i) ≡ slice_get xs i) → n ≤ length xs → map (slice_get all) (range_with_len a n) ≡ map Some (take n xs)
  gets_from all xs a zero h le = refl
  gets_from all [] a (suc n) h le = absurd (omega (arith, le))
  gets_from all (x ∷ xs) a (suc n) h le = (λ z. first z ∷ gets_from all xs (a + 1) n later (omega (arith, le)) z)
    where
      first : slice_get all a ≡ Some x
      first = let e : a ≡ a + 0 = omega arith in ap (slice_get all) e ∙ h 0

      later : (i : ℕ) → slice_get all (a + 1 + i) ≡ slice_get xs i
      later i = let e : a + 1 + i ≡ a + suc i = omega arith in ap (slice_get all) e ∙ h (suc i)

  gets : (xs : List X) (n : ℕ) → n ≤ length xs → map (slice_get xs) (range_with_len 0 n) ≡ map Some (take n xs)
  gets xs n le = gets_from xs xs 0 n (λ i. let e : 0 + i ≡ i = omega arith in ap (slice_get xs) e) le

  take_whole : (xs : List X) → take (length xs) xs ≡ xs
  take_whole [] = refl
  take_whole (x ∷ xs) = ap (λ ys. x ∷ ys) (take_whole xs)

  no_more : (os : List (Option X)) → os ++ [] ≡ os
  no_more [] = refl
  no_more (o ∷ os) = ap (λ ys. o ∷ ys) (no_more os)

  -- once all places are read, the rows at them stand in front
  pub all_read : (xs ys old : List X) (ps : List ℕ) (i : ℕ) → length ps ≤ i → i ≤ length ps → length ps ≤ length xs → ys ≡ take (length ps) xs → read_at xs i ps ≡ map (slice_get old) ps → map Some ys ≡ map (slice_get old) ps
  all_read xs ys old ps i past most fits cut same =
      let end : i ≡ length ps = omega (arith, past, most) in
      ap (map Some) cut
      ∙ (sym (gets xs (length ps) fits)
      ∙ (ap (λ n. map (slice_get xs) (range_with_len 0 n)) (sym end)
      ∙ (sym (no_more (map (slice_get xs) (range_with_len 0 i))) ∙ (ap (λ js. map (slice_get xs) (range_with_len 0 i) ++ map (slice_get xs) js) (sym (drop_past i ps past)) ∙ same))))

  -- ---- items for their options

  abbrev given : List (Option X) → List X
  given [] = []
  given (None ∷ os) = given os
  given (Some x ∷ os) = x ∷ given os

  given_all : (xs : List X) → given (map Some xs) ≡ xs
  given_all [] = refl
  given_all (x ∷ xs) = ap (λ ys. x ∷ ys) (given_all xs)

  same_given : (xs ys : List X) → map Some xs ≡ map Some ys → xs ≡ ys
  same_given xs ys e = sym (given_all xs) ∙ (ap given e ∙ given_all ys)

module _ (orders : List SortOrder) where
  abbrev same : Option FoundRow → Option FoundRow → Bool
  same o p = is_eq (by_values orders (results_of o) (results_of p))

  whole : (found : List FoundRow) → map (slice_get found) (range_with_len 0 (length found)) ≡ map Some found
  whole found = gets found (length found) (omega arith) ∙ ap (map Some) (take_whole found)

  -- the rows at the places told apart are those told apart
  pub rows_told_apart : (found new : List FoundRow) (places : List ℕ) → places ≡ distinct (tie_at orders found) (range_with_len 0 (length found)) → map Some new ≡ map (slice_get found) places
      → new ≡ distinct (have_same_results orders) found
  rows_told_apart found new places h e =
      same_given new (distinct (have_same_results orders) found)
      (e ∙ (ap (map (slice_get found)) h ∙ (distinct_seen (slice_get found) same (range_with_len 0 (length found)) ∙ (ap (distinct same) (whole found) ∙ sym (distinct_seen Some same found)))))
