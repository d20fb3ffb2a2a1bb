-- What the first sixteen bytes tell apart, and their number.
use Rattle.std.proofs.Common.{◌≡◌, ◌<◌, ◌≤◌, ◌+◌, ◌-◌, ◌*◌, ◌^◌, refl, sym, ap, ◌∙◌, subst, inl, inr, ℕ, suc, zero, List, [], ◌∷◌, ◌++◌, get_or, arith, drop, length, min, pow-suc, replicate, take}
use Rattle.std.proofs.Math.Nat.{mul-le-mul_right}
use Rattle.std.proofs.lemmas.Bool.{cases_lt}
use Rattle.std.proofs.lemmas.Cmp.{nat_list_cmp_total}
use Rattle.std.proofs.lemmas.List.{get_or-append_right, get_or-drop, get_or-replicate, get_or-take, get_or_append_left, get_or_past, length-take-le}
use Rattle.std.specs.Prelude.{slice_index}
use Rattle.std.specs.Int.{w128, byte_worth, from_be_bytes, sum_through}
use Rattle.std.specs.Cmp.Lexicographic.{slice_cmp}
use Rattle.std.specs.Ordering.{nat_cmp, ordering_then, ordering_reverse}
use Rattle.std.specs.declared.cmp.Ordering.TheVariants.{Less}
use Rattle.sort_keys.specs.Keys.{AreBytes, front_number, prefix_number}
use Rattle.sort_keys.specs.Laws.{PrefixesStandFirst}
use Rattle.sort_keys.proofs.Numbers.{equal_is, higher, less_is, some_power}
use Rattle.sort_keys.proofs.Parting.{rest_of}

front_below : (n : ℕ) (bs : List ℕ) → AreBytes bs → front_number n bs < 256 ^ n
front_below zero bs h = some_power 0
front_below (suc n) [] h = some_power (suc n)
front_below (suc n) (b ∷ bs) h =
    let rest = front_below n bs (rest_of b bs h) in
    let step : suc b * 256 ^ n ≤ 256 * 256 ^ n = mul-le-mul_right (256 ^ n) (h 0) in
    let wider : 256 ^ suc n ≡ 256 ^ n * 256 = pow-suc 256 n in
    omega arith

front_less : (n : ℕ) (a b : List ℕ) → AreBytes a → AreBytes b → front_number n a < front_number n b → slice_cmp nat_cmp a b ≡ Less
front_less zero a b ha hb h = absurd (omega arith)
front_less (suc n) [] [] ha hb h = absurd (omega arith)
front_less (suc n) [] (c ∷ cs) ha hb h = refl
front_less (suc n) (b ∷ bs) [] ha hb h = absurd (omega arith)
front_less (suc n) (b ∷ bs) (c ∷ cs) ha hb h = elim (cases_lt b c) [
  | inl l ↦ ap (λ o. ordering_then o (slice_cmp nat_cmp bs cs)) (less_is b c l)
  | inr l ↦
      elim (cases_lt c b) [
        | inl g ↦
            let other = higher c b (front_number n cs) (front_number n bs) (256 ^ n) g (front_below n cs (rest_of c cs hb)) in
            absurd (omega arith)
        | inr g ↦
            let e : b ≡ c = omega arith in
            let same : c * 256 ^ n + front_number n bs < c * 256 ^ n + front_number n cs = subst (λ x. x * 256 ^ n + front_number n bs < c * 256 ^ n + front_number n cs) e h in
            ap (λ o. ordering_then o (slice_cmp nat_cmp bs cs)) (ap (λ x. nat_cmp x c) e ∙ equal_is c)
            ∙ front_less n bs cs (rest_of b bs ha) (rest_of c cs hb) (omega arith)
      ]
]

pub prefixes_stand : PrefixesStandFirst
unfolding prefix_number
prefixes_stand a b ha hb = (
  λ h. front_less 16 a b ha hb h,
  λ h. nat_list_cmp_total.antisymm a b ∙ ap ordering_reverse (front_less 16 b a hb ha h),
)

-- ---- the sum of the bytes

sum_same : (f g : ℕ → ℕ) (k : ℕ) → ((i : ℕ) → i ≤ k → f i ≡ g i) → sum_through f k ≡ sum_through g k
sum_same f g zero h = h 0 (omega arith)
sum_same f g (suc k) h =
    ap (λ n. n + f (suc k)) (sum_same f g k (λ i l. h i (omega arith))) ∙ ap (λ n. sum_through g k + n) (h (suc k) (omega arith))

sum_first : (f : ℕ → ℕ) (k : ℕ) → sum_through f (suc k) ≡ f 0 + sum_through (λ i. f (suc i)) k
sum_first f zero = refl
sum_first f (suc k) = let on = sum_first f k in omega arith

sum_nothing : (k : ℕ) → sum_through (λ i. 0) k ≡ 0
sum_nothing zero = refl
sum_nothing (suc k) = let on = sum_nothing k in omega arith

worth_is : (i b : ℕ) → byte_worth i b ≡ b * 256 ^ i
worth_is zero b = omega arith
worth_is (suc i) b = refl

sum_is : (k : ℕ) (bytes : List ℕ) → sum_through (λ i. byte_worth (k - i) (slice_index bytes i)) k ≡ front_number (suc k) bytes
sum_is k [] = sum_same (λ i. byte_worth (k - i) 0) (λ i. 0) k (λ i l. worth_is (k - i) 0 ∙ omega arith) ∙ sum_nothing k
sum_is zero (b ∷ bs) = omega arith
sum_is (suc k) (b ∷ bs) =
    let all : suc k - 0 ≡ suc k = omega arith in
    sum_first (λ i. byte_worth (suc k - i) (slice_index (b ∷ bs) i)) k
    ∙ (ap (λ n. byte_worth n b + sum_through (λ i. byte_worth (suc k - suc i) (slice_index bs i)) k) all
    ∙ (ap (λ n. byte_worth (suc k) b + n) (sum_same (λ i. byte_worth (suc k - suc i) (slice_index bs i)) (λ i. byte_worth (k - i) (slice_index bs i)) k
    (λ i l. ap (λ n. byte_worth n (slice_index bs i)) (let e : suc k - suc i ≡ k - i = omega arith in e)))
    ∙ ap (λ n. b * 256 ^ suc k + n) (sum_is k bs)))

pub front_is : (front key : List ℕ) → ((i : ℕ) → i ≤ 15 → slice_index front i ≡ slice_index key i) → from_be_bytes w128 front ≡ prefix_number key
unfolding prefix_number
front_is front key h =
    sum_same (λ i. byte_worth (15 - i) (slice_index front i)) (λ i. byte_worth (15 - i) (slice_index key i)) 15 (λ i l. ap (byte_worth (15 - i)) (h i l)) ∙ sum_is 15 key

-- the first sixteen bytes at the front of sixteen zeros
pub front_of : (key copied : List ℕ) (n : ℕ) → n ≡ min (length key) 16 → copied ≡ take n key → from_be_bytes w128 (copied ++ drop n (replicate 16 0)) ≡ prefix_number key
front_of key copied n few is = front_is (copied ++ drop n (replicate 16 0)) key at
  where
    long : length copied ≡ n
    long = ap length is ∙ length-take-le n key (omega arith)

    at : (i : ℕ) → i ≤ 15 → slice_index (copied ++ drop n (replicate 16 0)) i ≡ slice_index key i
    at i h = elim (cases_lt i n) [
      | inl l ↦ get_or_append_left copied (drop n (replicate 16 0)) 0 i (omega (arith, long)) ∙ (ap (λ (ys : List ℕ). get_or ys i 0) is ∙ get_or-take n key i 0 l)
      | inr l ↦
          get_or-append_right copied (drop n (replicate 16 0)) n i 0 long l
          ∙ (get_or-drop n (replicate 16 0) (i - n) 0 ∙ (get_or-replicate 16 (n + (i - n)) 0 0 (omega arith) ∙ sym (get_or_past key i 0 (omega arith))))
    ]
