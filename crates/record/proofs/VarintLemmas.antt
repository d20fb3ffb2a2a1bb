-- Variable-length integers: each spelling is read, and what is read is a spelling.
use Rattle.std.proofs.Common.{◌≡◌, ◌⊎◌, inl, inr, ℕ, zero, suc, ◌+◌, ◌-◌, ◌*◌, ◌/◌, ◌%◌, ◌^◌, ◌<◌, ◌≤◌, Bool, true, false, cond, nat_lt, List, [], ◌∷◌, ◌++◌, length, Option, Some, refl, sym, ap, ◌∙◌, append_assoc, arith, get_or}
use Rattle.std.proofs.lemmas.List.Elements.{recursion_from_All, All-from_get_or}
use Rattle.std.specs.List.{AllByRecursion, fold}
use Rattle.std.proofs.lemmas.Bool.{ltb-true, ltb-false, lt-ltb, le-ltb, cases_lt}
use Rattle.std.proofs.lemmas.List.{map_push, length_push, length-map}
use Rattle.std.proofs.Math.Nat.{mod-eq_of_lt, pow-le-pow_right, pow-suc}
use Rattle.std.proofs.lemmas.Nat.{mul-le}
use Rattle.record.specs.Varint.{base128, marked, AreDigits, Ends, IsVarint, varint_from, varint_at, digits, going_on, high_count, varint, IsShortestVarint}
use Rattle.std.proofs.lemmas.Bool.Decides.{nat_tests}

pub going_on_more : (count n : ℕ) → 0 < count → going_on count n ≡ going_on (count - 1) (n / 128) ++ (128 + n % 128) ∷ []
going_on_more zero n some = absurd (omega arith)
going_on_more (suc count) n some =
    let one : suc count - 1 ≡ count = omega arith in
    map_push (λ digit. 128 + digit) (digits count (n / 128)) (n % 128) ∙ rw one refl

-- seven bytes give 49 bits
pub below_49 : (high count : ℕ) → high < 128 ^ count → count < 8 → high < 2 ^ 49
below_49 high count below few =
    let cap : 128 ^ count ≤ 128 ^ 7 = pow-le-pow_right (omega arith) (let h : count ≤ 7 = omega arith in h) in omega arith

-- ---- reading

-- which way a test went
pub chosen : {A : Type 0} (b : Bool) (x y z : A) → cond b x y ≡ z → ((b ≡ true) × (x ≡ z)) ⊎ ((b ≡ false) × (y ≡ z))
chosen true x y z e = inl (refl, e)
chosen false x y z e = inr (refl, e)

abbrev some : {A : Type 0} → A → Option A
some x = Some x

pub some_is : {A : Type 0} {x y : A} → some x ≡ some y → x ≡ y
some_is e = cc

ends_more : (most count high last n : ℕ) → Ends most count high last n → Ends (suc most) (suc count) high last n
ends_more most count high last n (inl e) = inl (omega arith, e.1, e.2)
ends_more most count high last n (inr e) = inr (omega arith, e.1, e.2)

abbrev pub base128_from : ℕ → List ℕ → ℕ
base128_from high ds = fold (λ n digit. 128 * n + digit) high ds

abbrev pub AreBytes : List ℕ → Type 0
AreBytes bytes = AllByRecursion (λ byte. byte < 256) bytes

-- what is spelled so is read, whatever follows
again_from : (most high : ℕ) (ds : List ℕ) (last n : ℕ) (rest : List ℕ) → AreDigits ds → Ends most (length ds) (base128_from high ds) last n
    → varint_from most high (marked ds ++ last ∷ rest) ≡ Some (n, rest)
again_from zero high [] last n rest seven (inl e) = absurd (omega arith)
again_from zero high [] last n rest seven (inr e) = let same : high * 256 + last ≡ n = omega arith in rw same refl
again_from (suc most) high [] last n rest seven (inl e) =
    let same : high * 128 + last ≡ n = omega arith in
    rw (lt-ltb _ _ e.1, same) refl
again_from (suc most) high [] last n rest seven (inr e) = absurd (omega arith)
again_from zero high (d ∷ ds) last n rest seven (inl e) = absurd (omega arith)
again_from zero high (d ∷ ds) last n rest seven (inr e) = absurd (omega arith)
again_from (suc most) high (d ∷ ds) last n rest seven (inl e) =
    let next : high * 128 + (128 + d - 128) ≡ 128 * high + d = omega arith in
    let big : nat_lt (128 + d) 128 ≡ false = le-ltb _ _ (omega arith) in
    rw (big, next) (again_from most (128 * high + d) ds last n rest seven.1 (inl (omega arith, e.1, e.2)))
again_from (suc most) high (d ∷ ds) last n rest seven (inr e) =
    let next : high * 128 + (128 + d - 128) ≡ 128 * high + d = omega arith in
    let big : nat_lt (128 + d) 128 ≡ false = le-ltb _ _ (omega arith) in
    rw (big, next) (again_from most (128 * high + d) ds last n rest seven.1 (inr (omega arith, e.1, e.2)))

pub varint_again : (text : List ℕ) (n : ℕ) (rest : List ℕ) → IsVarint text n → varint_at (text ++ rest) ≡ Some (n, rest)
unfolding varint_at
varint_again text n rest v =
    let parts : text ++ rest ≡ marked v.high ++ v.last ∷ rest = ap (λ (x : List ℕ). x ++ rest) v.spelled ∙ append_assoc (marked v.high) (v.last ∷ []) rest in
    ap (varint_from 8 0) parts ∙ again_from 8 0 v.high v.last n rest v.seven v.ends

-- what is read is spelled so
pub record Spells (most high : ℕ) (bytes : List ℕ) (n : ℕ) (rest : List ℕ) : Type 0 where
  pub digits : List ℕ
  pub last : ℕ
  pub parts : bytes ≡ marked digits ++ last ∷ rest
  pub seven : AreDigits digits
  pub ends : Ends most (length digits) (base128_from high digits) last n

takes_from : (most high : ℕ) (bytes : List ℕ) (n : ℕ) (rest : List ℕ) → AreBytes bytes → varint_from most high bytes ≡ Some (n, rest) → Spells most high bytes n rest
takes_from most high [] n rest fits e = absurd cc
takes_from zero high (b ∷ bytes) n rest fits e =
    let p : (high * 256 + b, bytes) ≡ (n, rest) = some_is e in
    let n-is : high * 256 + b ≡ n = ap (λ (x : ℕ × List ℕ). x.0) p in
    record { digits = []; last = b; parts = ap (λ (x : ℕ × List ℕ). b ∷ x.1) p; seven = tt; ends = inr (refl, fits.0, omega arith) }
takes_from (suc most) high (b ∷ bytes) n rest fits e =
    elim (chosen (nat_lt b 128) _ _ _ e) [
      | inl small ↦
          let p : (high * 128 + b, bytes) ≡ (n, rest) = some_is small.1 in
          let n-is : high * 128 + b ≡ n = ap (λ (x : ℕ × List ℕ). x.0) p in
          let below : b < 128 = ltb-true _ _ small.0 in
          record { digits = []; last = b; parts = ap (λ (x : ℕ × List ℕ). b ∷ x.1) p; seven = tt; ends = inl (omega arith, below, omega arith) }
      | inr large ↦
          let above : 128 ≤ b = ltb-false _ _ large.0 in
          let next : high * 128 + (b - 128) ≡ 128 * high + (b - 128) = omega arith in
          let back : b ≡ 128 + (b - 128) = omega arith in
          let s = takes_from most (128 * high + (b - 128)) bytes n rest fits.1 (rw next at large.1) in
          record {
            digits = (b - 128) ∷ s.digits;
            last = s.last;
            parts = ap (λ (x : ℕ). x ∷ bytes) back ∙ ap (λ (x : List ℕ). (128 + (b - 128)) ∷ x) s.parts;
            seven = (omega (arith, fits.0), s.seven);
            ends = ends_more most (length s.digits) (base128_from (128 * high + (b - 128)) s.digits) s.last n s.ends;
          }
    ]

pub varint_takes : (bytes : List ℕ) (n : ℕ) (rest : List ℕ) → AreBytes bytes → varint_at bytes ≡ Some (n, rest) → (text : List ℕ) × (bytes ≡ text ++ rest) × IsVarint text n
unfolding varint_at
varint_takes bytes n rest fits e =
    let s = takes_from 8 0 bytes n rest fits e in (
      marked s.digits ++ s.last ∷ [],
      s.parts ∙ sym (append_assoc (marked s.digits) (s.last ∷ []) rest),
      record { high = s.digits; last = s.last; spelled = refl; seven = s.seven; ends = s.ends },
    )

-- ---- writing

length-digits : (count n : ℕ) → length (digits count n) ≡ count
length-digits zero n = refl
length-digits (suc count) n = length_push (digits count (n / 128)) (n % 128) ∙ rw (length-digits count (n / 128)) (omega arith)

push_digit : (ds : List ℕ) (d : ℕ) → AreDigits ds → d < 128 → AreDigits (ds ++ d ∷ [])
push_digit [] d h below = (below, tt)
push_digit (x ∷ ds) d h below = (h.0, push_digit ds d h.1 below)

AreDigits-digits : (count n : ℕ) → AreDigits (digits count n)
AreDigits-digits zero n = tt
AreDigits-digits (suc count) n = push_digit (digits count (n / 128)) (n % 128) (AreDigits-digits count (n / 128)) (omega arith)

base128_push : (high : ℕ) (ds : List ℕ) (d : ℕ) → base128_from high (ds ++ d ∷ []) ≡ 128 * base128_from high ds + d
base128_push high [] d = refl
base128_push high (x ∷ ds) d = base128_push (128 * high + x) ds d

base128-digits : (count n : ℕ) → n < 128 ^ count → base128 (digits count n) ≡ n
base128-digits zero n below = omega arith
base128-digits (suc count) n below =
    let more : 128 ^ suc count ≡ 128 ^ count * 128 = pow-suc 128 count in
    let part : n / 128 < 128 ^ count = omega arith in
    base128_push 0 (digits count (n / 128)) (n % 128) ∙ rw (base128-digits count (n / 128) part) (omega arith)

count_fits : (n : ℕ) → n < 2 ^ 56 → (n / 128 < 128 ^ high_count n) × (high_count n < 8)
unfolding high_count
count_fits n below = grind (arith, nat_tests)

count_full : (n : ℕ) → 2 ^ 56 ≤ n → high_count n ≡ 8
unfolding high_count
count_full n ge = grind (arith, nat_tests)

count_least : (n : ℕ) → 0 < high_count n → 128 ^ high_count n ≤ n
unfolding high_count
count_least n some = grind (arith, nat_tests)

varint_is : (n : ℕ) → n < 2 ^ 64 → IsVarint (varint n) n
unfolding varint
varint_is n below =
    elim (cases_lt n (2 ^ 56)) [
      | inl lt ↦
          let fits = count_fits n lt in
          let value = base128-digits (high_count n) (n / 128) fits.0 in
          let len = length-digits (high_count n) (n / 128) in
          rw (lt-ltb _ _ lt) (record {
            high = digits (high_count n) (n / 128);
            last = n % 128;
            spelled = refl;
            seven = AreDigits-digits (high_count n) (n / 128);
            ends = inl (omega arith, omega arith, omega arith);
          })
      | inr ge ↦
          let value = base128-digits 8 (n / 256) (omega arith) in
          rw (le-ltb _ _ ge) (record {
            high = digits 8 (n / 256);
            last = n % 256;
            spelled = refl;
            seven = AreDigits-digits 8 (n / 256);
            ends = inr (length-digits 8 (n / 256), omega arith, omega arith);
          })
    ]

-- so many digits give a number below that power
base128_below : (high : ℕ) (ds : List ℕ) → AreDigits ds → base128_from high ds < (high + 1) * 128 ^ length ds
base128_below high [] seven = omega arith
base128_below high (d ∷ ds) seven =
    let more : 128 ^ suc (length ds) ≡ 128 ^ length ds * 128 = pow-suc 128 (length ds) in
    let rest = base128_below (128 * high + d) ds seven.1 in
    let step : (128 * high + d + 1) * 128 ^ length ds ≤ (128 * (high + 1)) * 128 ^ length ds = mul-le _ _ _ _ (omega (arith, seven.0)) (omega arith) in
    let same : (128 * (high + 1)) * 128 ^ length ds ≡ (high + 1) * 128 ^ suc (length ds) = rw more (grind arith) in
    omega arith

pub length-varint : (n : ℕ) → length (varint n) ≡ suc (high_count n)
unfolding varint
length-varint n =
    elim (cases_lt n (2 ^ 56)) [
      | inl lt ↦ rw (lt-ltb _ _ lt) (length_push (marked (digits (high_count n) (n / 128))) (n % 128) ∙ rw (length-map, length-digits) (omega arith))
      | inr ge ↦ rw (le-ltb _ _ ge, count_full n ge) refl
    ]

-- a varint of so many bytes that go on
below_power : (text : List ℕ) (n : ℕ) (v : IsVarint text n) → length v.high < 8 → n < 128 ^ suc (length v.high)
below_power text n v few =
    let cap = base128_below 0 v.high v.seven in
    let more : 128 ^ suc (length v.high) ≡ 128 ^ length v.high * 128 = pow-suc 128 (length v.high) in
    elim v.ends [ inl e ↦ omega (arith, e.1, e.2) | inr e ↦ absurd (omega (arith, e.0)) ]

high_at_most : (text : List ℕ) (n : ℕ) (v : IsVarint text n) → length v.high ≤ 8
high_at_most text n v = elim v.ends [ inl e ↦ omega (arith, e.0) | inr e ↦ omega (arith, e.0) ]

count_at_most : (n : ℕ) → high_count n ≤ 8
unfolding high_count
count_at_most n = grind (arith, nat_tests)

high_least : (text : List ℕ) (n : ℕ) (v : IsVarint text n) → high_count n ≤ length v.high
high_least text n v =
    elim (cases_lt (length v.high) (high_count n)) [
      | inl fewer ↦
          let at_most = count_at_most n in
          let above : 128 ^ high_count n ≤ n = count_least n (omega arith) in
          let below : n < 128 ^ suc (length v.high) = below_power text n v (omega arith) in
          let cap : 128 ^ suc (length v.high) ≤ 128 ^ high_count n = pow-le-pow_right (omega arith) (let h : suc (length v.high) ≤ high_count n = omega arith in h) in
          absurd (omega arith)
      | inr enough ↦ enough
    ]

-- what is written is a varint, and none is shorter
pub varint_shortest : (n : ℕ) → n < 2 ^ 64 → IsShortestVarint (varint n) n
varint_shortest n below =
    record {
      is = varint_is n below;
      least = λ other v. omega (arith, length-varint n, high_least other n v, ap length v.spelled, length_push (marked v.high) v.last, length-map v.high (λ (digit : ℕ). 128 + digit));
    }

pub AreBytes-from_index : (bytes : List ℕ) → ((i : ℕ) → get_or bytes i 0 < 256) → AreBytes bytes
AreBytes-from_index bytes h = recursion_from_All (λ byte. byte < 256) bytes (All-from_get_or (λ byte. byte < 256) bytes 0 (λ i lt. h i))

pub length_varint_le : (n : ℕ) → length (varint n) ≤ 9
length_varint_le n = omega (arith, length-varint n, count_at_most n)

count_one : (n : ℕ) → n < 128 → high_count n ≡ 0
unfolding high_count
count_one n below = grind (arith, nat_tests)

count_two : (n : ℕ) → 128 ≤ n → n < 16384 → high_count n ≡ 1
unfolding high_count
count_two n above below = grind (arith, nat_tests)

pub length_one : (n : ℕ) → n < 128 → length (varint n) ≡ 1
length_one n below = omega (arith, length-varint n, count_one n below)

pub length_two : (n : ℕ) → 128 ≤ n → n < 16384 → length (varint n) ≡ 2
length_two n above below = omega (arith, length-varint n, count_two n above below)

-- ---- numbers of one byte or two

pub varint_of_one : (n : ℕ) → n < 128 → varint n ≡ n ∷ []
unfolding varint
varint_of_one n below =
    let last : n % 128 ≡ n = mod-eq_of_lt below in
    rw (lt-ltb n (2 ^ 56) (omega arith), count_one n below, last) refl

pub varint_of_two : (n : ℕ) → 128 ≤ n → n < 16384 → varint n ≡ (128 + n / 128) ∷ n % 128 ∷ []
unfolding varint
varint_of_two n above below =
    let first : n / 128 % 128 ≡ n / 128 = mod-eq_of_lt (omega arith) in
    rw (lt-ltb n (2 ^ 56) (omega arith), count_two n above below, first) refl
