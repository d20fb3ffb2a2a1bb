-- A list of different numbers has no more of them than there are.
use Rattle.std.proofs.Common.{◌≡◌, ℕ, zero, suc, ◌+◌, ◌-◌, ◌<◌, ◌≤◌, List, [], ◌∷◌, ◌++◌, length, refl, sym, subst, arith}
use Rattle.std.proofs.lemmas.Grind.{common_steps}
use Rattle.std.specs.List.{AllByRecursion}
use Rattle.std.specs.Prelude.{nat_lt, ◌==◌, if◌then◌else◌}
use Rattle.pages.specs.Counting.{occurs}

-- each number is at least the first of these and less than the second
abbrev pub AllFrom : ℕ → ℕ → List ℕ → Type 0
AllFrom low high numbers = AllByRecursion (λ n. (low ≤ n) × (n < high)) numbers

pub all_both : (low high : ℕ) (xs ys : List ℕ) → AllFrom low high xs → AllFrom low high ys → AllFrom low high (xs ++ ys)
all_both low high [] ys a b = b
all_both low high (x ∷ xs) ys a b = (a.0, all_both low high xs ys a.1 b)

-- how many of them are less than this
abbrev below : ℕ → List ℕ → ℕ
below k [] = 0
below k (x ∷ xs) = (if nat_lt x k then 1 else 0) + below k xs

one_below : (x k : ℕ) (xs : List ℕ) → x < k → below k (x ∷ xs) ≡ 1 + below k xs
one_below x k xs lt = grind (arith, common_steps)

all_below : (low k : ℕ) (xs : List ℕ) → AllFrom low k xs → below k xs ≡ length xs
all_below low k [] all = refl
all_below low k (x ∷ xs) all = (let rest = all_below low k xs all.1 in let first = one_below x k xs (all.0).1 in omega (arith, rest, first))

here_below : (x k : ℕ) (rest there more : ℕ) → more ≡ rest + there → (if nat_lt x (1 + k) then 1 else 0) + more ≡ ((if nat_lt x k then 1 else 0) + rest) + ((if x == k then 1 else 0) + there)
here_below x k rest there more is = grind (arith, common_steps)

next_below : (k : ℕ) (xs : List ℕ) → below (1 + k) xs ≡ below k xs + occurs k xs
next_below k [] = refl
next_below k (x ∷ xs) = here_below x k (below k xs) (occurs k xs) (below (1 + k) xs) (next_below k xs)

none_below : (low high : ℕ) (xs : List ℕ) → AllFrom low high xs → below low xs ≡ 0
none_below low high [] all = refl
none_below low high (x ∷ xs) all = (let rest = none_below low high xs all.1 in not_here x low xs (all.0).0 rest) where
  not_here : (x low : ℕ) (xs : List ℕ) → low ≤ x → below low xs ≡ 0 → below low (x ∷ xs) ≡ 0
  not_here x low xs le rest = grind (arith, common_steps)

few_below : (k : ℕ) (xs : List ℕ) → below 2 xs ≡ 0 → ((n : ℕ) → occurs n xs ≤ 1) → below (2 + k) xs ≤ k
few_below zero xs none once = omega (arith, none)
few_below (suc k) xs none once = (let rest = few_below k xs none once in let next = next_below (2 + k) xs in let one = once (2 + k) in let at : 2 + suc k ≡ 1 + (2 + k) = omega arith in
    subst (λ (n : ℕ). below n xs ≤ suc k) (sym at) (omega (arith, rest, next, one)))

-- numbers from 2 on, each once, are fewer than the bound less 1
pub few_between : (high : ℕ) (xs : List ℕ) → AllFrom 1 high xs → ((n : ℕ) → occurs n xs ≤ 1) → occurs 1 xs ≡ 0 → 2 ≤ high → length xs + 2 ≤ high
few_between high xs all once none large =
    let k = high - 2 in
    let is : 2 + k ≡ high = omega (arith, large) in
    let first = none_below 1 high xs all in
    let second = next_below 1 xs in
    let two : below 2 xs ≡ 0 = omega (arith, first, second, none) in
    let most : below high xs ≤ k = subst (λ (h : ℕ). below h xs ≤ k) is (few_below k xs two once) in
    let whole = all_below 1 high xs all in
    omega (arith, most, whole, is)
