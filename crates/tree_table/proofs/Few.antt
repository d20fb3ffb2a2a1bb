-- Packed pages are few, and pages are large.
use Rattle.std.proofs.Common.{◌≡◌, ◌≤◌, ◌<◌, ◌+◌, ◌-◌, ◌*◌, ◌/◌, ◌^◌, ℕ, zero, suc, Bool, true, false, List, [], ◌∷◌, length, take, drop, refl, ap, inl, inr, ◌⊎◌, arith}
use Rattle.std.proofs.Math.Nat.{pow-le-pow_right, mul-le-mul_left}
use Rattle.std.proofs.lemmas.Bool.{cases_lt, cases_eq}
use Rattle.std.proofs.lemmas.List.{length-drop}
use Rattle.sqlval.specs.PageSizes.{IsPageSize}
use Rattle.tree_pack.specs.Parts.{total, IsPart, AreParts, goal_of, IsCut}

-- ---- sums

total_cut : (n : ℕ) (sizes : List ℕ) → total (take n sizes) + total (drop n sizes) ≡ total sizes
total_cut zero sizes = omega arith
total_cut (suc n) [] = omega arith
total_cut (suc n) (size ∷ sizes) = (let e = total_cut n sizes in omega (arith, e))

none_dropped : (n : ℕ) → total (drop n []) ≡ 0
none_dropped zero = refl
none_dropped (suc n) = refl

none_taken : (n : ℕ) → total (take n []) ≡ 0
none_taken zero = refl
none_taken (suc n) = refl

-- the size at a place, or none
abbrev at : ℕ → List ℕ → ℕ
at n [] = 0
at zero (size ∷ sizes) = size
at (suc n) (size ∷ sizes) = at n sizes

-- the first sizes, and the next one
total_next : (n : ℕ) (sizes : List ℕ) → total (take (n + 1) sizes) ≡ total (take n sizes) + at n sizes
total_next zero [] = refl
total_next zero (size ∷ sizes) = omega arith
total_next (suc n) [] = (let e = none_taken (suc n + 1) in omega (arith, e))
total_next (suc n) (size ∷ sizes) = (let e = total_next n sizes in let s : suc n + 1 ≡ suc (n + 1) = omega arith in let f = ap (λ (k : ℕ). total (take k (size ∷ sizes))) s in omega (arith, e, f))

-- ---- parts

-- a part is full with the next cell, or it has half of all, or few cells are left after it
abbrev Enough : ℕ → ℕ → ℕ → List ℕ → ℕ → Type 0
Enough up room goal sizes count = (goal ≤ total (take count sizes)) ⊎ ((room < total (take (count + 1) sizes)) ⊎ (count + up + 1 ≡ length sizes))

no_more : (up room goal : ℕ) (counts sizes : List ℕ) → length sizes ≤ 1 → AreParts up room goal counts sizes → length counts ≡ 0
no_more up room goal [] sizes short parts = refl
no_more up room goal (count ∷ counts) sizes short parts = absurd (let some = parts.0.some in let behind = parts.0.behind in omega (arith, some, behind, short))

mul_more : (a n : ℕ) → a * suc n ≡ a + a * n
mul_more a n = omega arith

-- the cell after a part is the first of the next, or one that goes up
next_shared : (count up : ℕ) (sizes : List ℕ) → at count sizes + total (drop (count + up) sizes) ≤ total (drop count sizes) + at 0 (drop (count + up) sizes)
next_shared count up sizes = by up
  where
    later : (n : ℕ) (xs : List ℕ) → total (drop n xs) ≤ total xs
    later n xs = (let e = total_cut n xs in omega (arith, e))

    shift : (count up : ℕ) (xs : List ℕ) → at count xs + total (drop (count + suc up) xs) ≤ total (drop count xs)
    shift count up [] = (let e = none_dropped (count + suc up) in omega (arith, e))
    shift zero up (x ∷ xs) = (let s : 0 + suc up ≡ suc up = omega arith in let f = ap (λ (k : ℕ). total (drop k (x ∷ xs))) s in let l = later up xs in omega (arith, f, l))
    shift (suc count) up (x ∷ xs) = (let s : suc count + suc up ≡ suc (count + suc up) = omega arith in let f = ap (λ (k : ℕ). total (drop k (x ∷ xs))) s in let r = shift count up xs in omega (arith, f, r))

    here : (count : ℕ) (xs : List ℕ) → at count xs ≡ at 0 (drop count xs)
    here zero [] = refl
    here (suc count) [] = refl
    here zero (x ∷ xs) = refl
    here (suc count) (x ∷ xs) = here count xs

    by : (up : ℕ) → at count sizes + total (drop (count + up) sizes) ≤ total (drop count sizes) + at 0 (drop (count + up) sizes)
    by zero = (let s : count + 0 ≡ count = omega arith in let f = ap (λ (k : ℕ). total (drop k sizes)) s in let g = ap (λ (k : ℕ). at 0 (drop k sizes)) s in let h = here count sizes in omega (arith, f, g, h))
    by (suc up) = (let s = shift count up sizes in omega (arith, s))

first_le : (count : ℕ) (sizes : List ℕ) → 1 ≤ count → at 0 sizes ≤ total (take count sizes)
first_le zero sizes some = absurd (omega (arith, some))
first_le (suc count) [] some = omega arith
first_le (suc count) (size ∷ sizes) some = omega arith

first_all : (sizes : List ℕ) → at 0 sizes ≤ total sizes
first_all [] = omega arith
first_all (size ∷ sizes) = omega arith

-- how many parts may still have half of all: the goal is out of reach, or so many times in what is left at most
abbrev Bound : ℕ → ℕ → ℕ → List ℕ → Type 0
Bound room goal k sizes = (room < goal) ⊎ (total sizes < goal * suc k)

dropped : (count up : ℕ) (xs : List ℕ) → total (drop (count + up) xs) ≤ total (drop count xs)
dropped count up [] = (let e = none_dropped (count + up) in omega (arith, e))
dropped zero up (x ∷ xs) = (let s : 0 + up ≡ up = omega arith in let f = ap (λ (k : ℕ). total (drop k (x ∷ xs))) s in let e = total_cut up (x ∷ xs) in omega (arith, e, f))
dropped (suc count) up (x ∷ xs) = (let s : suc count + up ≡ suc (count + up) = omega arith in let f = ap (λ (k : ℕ). total (drop k (x ∷ xs))) s in let r = dropped count up xs in omega (arith, f, r))

-- so many parts in sizes, where so many of them have half of all
abbrev AreFew : ℕ → ℕ → ℕ → List ℕ → Type 0
AreFew room k parts sizes = room * parts + at 0 sizes ≤ 2 * total sizes + room * suc k

module _ (up room goal : ℕ) (counts : List ℕ) (count : ℕ) (sizes : List ℕ) (is : IsPart up room goal sizes count)
    (more : (k : ℕ) → Bound room goal k (drop (count + up) sizes) → AreFew room k (length counts) (drop (count + up) sizes))
    (none_more : length (drop (count + up) sizes) ≤ 1 → length counts ≡ 0) where
  whole : total (take count sizes) + total (drop count sizes) ≡ total sizes
  whole = total_cut count sizes

  later : total (drop (count + up) sizes) ≤ total (drop count sizes)
  later = dropped count up sizes

  first : at 0 sizes ≤ total (take count sizes)
  first = first_le count sizes is.some

  rest_bound : (k : ℕ) → Bound room goal k sizes → Bound room goal k (drop (count + up) sizes)
  rest_bound k (inl out) = inl out
  rest_bound k (inr lt) = inr (let w = whole in let l = later in omega (arith, lt, w, l))

  full : (k : ℕ) → Bound room goal k sizes → room < total (take count sizes) + at count sizes → AreFew room k (suc (length counts)) sizes
  full k bound lt =
      let ih = more k (rest_bound k bound) in
      let n = next_shared count up sizes in
      let w = whole in
      let l = later in
      let f = first in
      let m = mul_more room (length counts) in
      omega (arith, lt, ih, n, w, l, f, m)

  half : (k : ℕ) → goal ≤ total (take count sizes) → total sizes < goal * suc k → AreFew room k (suc (length counts)) sizes
  half zero ge lt = absurd (let w = whole in omega (arith, ge, lt, w))
  half (suc k) ge lt =
      let w = whole in
      let l = later in
      let f = first in
      let e = mul_more goal (suc k) in
      let ih = more k (inr (omega (arith, ge, lt, w, l, e))) in
      let m = mul_more room (length counts) in
      let r = mul_more room (suc k) in
      omega (arith, ih, w, l, f, m, r)

  one_more : (k : ℕ) → Enough up room goal sizes count → Bound room goal k sizes → AreFew room k (suc (length counts)) sizes
  one_more k (inl ge) (inl out) = full k (inl out) (omega (arith, ge, out))
  one_more k (inl ge) (inr lt) = half k ge lt
  one_more k (inr (inl lt)) b = full k b (let e = total_next count sizes in omega (arith, lt, e))
  one_more k (inr (inr last)) b =
      let len = length-drop (count + up) sizes in
      let none = none_more (omega (arith, len, last)) in
      let one = ap (λ (n : ℕ). room * suc n) none in
      let w = whole in
      let f = first in
      let r = mul_more room k in
      omega (arith, one, w, f, r)

few_more : (up room goal k : ℕ) (counts sizes : List ℕ) → Bound room goal k sizes → AreParts up room goal counts sizes → AreFew room k (length counts) sizes
few_more up room goal k [] sizes bound parts = (let f = first_all sizes in omega (arith, f))
few_more up room goal k (count ∷ counts) sizes bound parts =
    one_more up room goal counts count sizes parts.0 (λ j b. few_more up room goal j counts (drop (count + up) sizes) b parts.2)
    (λ short. no_more up room goal counts (drop (count + up) sizes) short parts.2) k parts.0.enough bound

half_all : (n : ℕ) → 1 ≤ n → n < (n - n / 2) * 3
half_all n some = omega (arith, some)

goal_bound : (rises : Bool) (room : ℕ) (sizes : List ℕ) → room < total sizes → Bound room (goal_of rises room sizes) 2 sizes
goal_bound true room sizes lt = inl (omega arith)
goal_bound false room sizes lt = inr (half_all (total sizes) (omega (arith, lt)))

-- all parts but three have, each with the next cell, more than there is room for
pub parts_few : (up room : ℕ) (rises : Bool) (sizes counts : List ℕ) → IsCut up room rises sizes counts → room * length counts ≤ 2 * total sizes + 3 * room
parts_few up room rises sizes counts cut = elim (cases_lt room (total sizes)) [
  | inl lt ↦ elim (cases_eq (length sizes) (up + 1)) [
    | inl e ↦ rw (cut.lone lt e) (omega arith)
    | inr other ↦ (let few = few_more up room (goal_of rises room sizes) 2 counts sizes (goal_bound rises room sizes lt) (cut.parts lt other) in omega (arith, few))
  ]
  | inr fits ↦ rw (cut.one fits) (omega arith)
]

pub few_parts : (up room : ℕ) (rises : Bool) (sizes counts : List ℕ) → IsCut up room rises sizes counts → 400 ≤ room → 2 * total sizes ≤ 4 * room + 240 → length counts ≤ 8
few_parts up room rises sizes counts cut large small = elim (cases_lt 8 (length counts)) [
  | inl lt ↦ absurd (let most = parts_few up room rises sizes counts cut in let nine = mul-le-mul_left room lt in omega (arith, most, nine, large, small))
  | inr ge ↦ ge
]

-- the sizes of pages
pub large_size : (size : ℕ) → IsPageSize size → (512 ≤ size) × (size ≤ 2 ^ 16)
large_size size is =
    let low : 2 ^ 9 ≤ 2 ^ is.exponent = pow-le-pow_right {n = 2} (omega arith) is.low in
    let high : 2 ^ is.exponent ≤ 2 ^ 16 = pow-le-pow_right {n = 2} (omega arith) is.high in
    let e = is.power in
    (omega (arith, e, low), omega (arith, e, high))
