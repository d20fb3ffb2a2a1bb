-- Names of parameters are `?` and a number in decimal.
use Rattle.std.proofs.Common.{◌≡◌, ℕ, ◌+◌, ◌*◌, ◌-◌, ◌≤◌, ◌<◌, Bool, true, false, cond, not, List, [], ◌∷◌, get_or, Option, Some, None, refl, sym, ap, ◌∙◌, arith}
use Rattle.std.specs.Char.{digit_value, is_ascii_digit}
use Rattle.std.specs.Fmt.{decimal}
use Rattle.std.specs.Int.{IsInRange}
use Rattle.std.specs.Str.Parse.{AllDigits, digits_value, digits_value_after}
use Rattle.std.proofs.lemmas.Bool.{and_parts, and_from, cond-true, cond-false, eqb-true, eqb-false, leb-true, le-leb, ltb-false, le-ltb, ne_eqb, not-true}
use Rattle.std.proofs.lemmas.Fmt.{decimal-digits_value, decimal_is_IsNumeral, first_decimal}
use Rattle.std.proofs.lemmas.Option.{none-some, same_Some}
use Rattle.std.proofs.lemmas.Str.{digit_value_digit}
use Rattle.std.proofs.lemmas.Str.Parse.{digit_from_value, numerals_by_value, tells_digits}
use Rattle.sql_bound.specs.Bound.{decimal_of, parameter_of, spelled_from}
use Rattle.sql_bound.specs.Laws.{NamesParameter, ParametersAreDecimal}

taken : {A : Type 0} (b : Bool) (o : Option A) (y : A) → cond b o None ≡ Some y → (b ≡ true) × (o ≡ Some y)
taken true o y e = (refl, e)
taken false o y e = absurd (none-some y e)

passed_by : {A : Type 0} (b : Bool) (o : Option A) (y : A) → cond b None o ≡ Some y → (b ≡ false) × (o ≡ Some y)
passed_by true o y e = absurd (none-some y e)
passed_by false o y e = (refl, e)

in_range : (c : ℕ) → is_ascii_digit c ≡ true → IsInRange 48 57 c
in_range c e = let k = and_parts _ _ e in (leb-true 48 c k.0, leb-true c 57 k.1)

is_digit : (c : ℕ) → IsInRange 48 57 c → is_ascii_digit c ≡ true
is_digit c k = and_from _ _ (le-leb 48 c k.0) (le-leb c 57 k.1)

-- what is spelled is the value of digits, and within bounds
pub spelled_is : (m n : ℕ) (ds : List ℕ) → spelled_from m ds ≡ Some n → AllDigits 10 ds × (digits_value_after 10 m ds ≡ n) × (m ≤ n) × (m ≤ 32766 → n ≤ 32766)
spelled_is m n [] e = let same : m ≡ n = same_Some m n e in (tt, same, omega arith, λ h. omega arith)
spelled_is m n (c ∷ cs) e =
    let first = taken _ _ n e in
    let test = and_parts _ _ first.0 in
    let digit = in_range c test.0 in
    let value = digit_value_digit c digit in
    let fits : m * 10 + (c - 48) ≤ 32766 = ltb-false 32766 (m * 10 + (c - 48)) (not-true _ test.1) in
    let rest = spelled_is (m * 10 + (c - 48)) n cs first.1 in
    ((omega arith, rest.0), ap (λ k. digits_value_after 10 k cs) (omega arith) ∙ rest.1, omega (arith, rest.2), λ h. rest.3 fits)

le_value : (m : ℕ) (ds : List ℕ) → m ≤ digits_value_after 10 m ds
le_value m [] = omega arith
le_value m (c ∷ cs) = omega (arith, le_value (m * 10 + digit_value c) cs)

-- digits spell their value
pub spells : (m n : ℕ) (ds : List ℕ) → AllDigits 10 ds → digits_value_after 10 m ds ≡ n → n ≤ 32766 → spelled_from m ds ≡ Some n
spells m n [] d e h = ap Some e
spells m n (c ∷ cs) d e h =
    let digit = digit_from_value c d.0 in
    let value = digit_value_digit c digit in
    let same : m * 10 + digit_value c ≡ m * 10 + (c - 48) = omega arith in
    let below : m * 10 + (c - 48) ≤ 32766 = omega (arith, le_value (m * 10 + digit_value c) cs) in
    cond-true _ _ _ (and_from _ _ (is_digit c digit) (ap not (le-ltb 32766 (m * 10 + (c - 48)) below)))
    ∙ spells (m * 10 + (c - 48)) n cs d.1 (ap (λ k. digits_value_after 10 k cs) (sym same) ∙ e) h

-- the number of a name is that of the digits after its mark
decimal_sound : (n : ℕ) (ds : List ℕ) → decimal_of ds ≡ Some n → (ds ≡ decimal n) × (1 ≤ n) × (n ≤ 32766)
decimal_sound n [] e = absurd (none-some n e)
decimal_sound n (c ∷ z) e =
    let past = passed_by _ _ n e in
    let found = spelled_is 0 n (c ∷ z) past.1 in
    let after = taken _ _ n past.1 in
    let rest = spelled_is (0 * 10 + (c - 48)) n z after.1 in
    let digit = in_range c (and_parts _ _ after.0).0 in
    let other : (c ≡ 48 → ⊥) = eqb-false c 48 past.0 in
    let small : n ≤ 32766 = found.3 (omega arith) in
    let some : 1 ≤ n = omega (arith, rest.2, other) in
    (sym (decimal-digits_value (numerals_by_value _ tells_digits) (c ∷ z) found.0 (omega arith) (λ zero. absurd (other zero)) (omega (arith, found.1))) ∙ ap decimal found.1, some, small)

decimal_found : (n : ℕ) (ds : List ℕ) → AllDigits 10 ds → digits_value 10 ds ≡ n → 48 < get_or ds 0 0 → n ≤ 32766 → decimal_of ds ≡ Some n
decimal_found n [] d e first h = absurd (omega arith)
decimal_found n (c ∷ z) d e first h = cond-false _ _ _ (ne_eqb c 48 (λ same. omega arith)) ∙ spells 0 n (c ∷ z) d e h

name_is : (name : List ℕ) (n : ℕ) → parameter_of name ≡ Some n → NamesParameter name n
name_is [] n e = absurd (none-some n e)
name_is (b ∷ z) n e =
    let mark = taken _ _ n e in
    let number = decimal_sound n z mark.1 in
    let is : b ≡ 63 = eqb-true b 63 mark.0 in
    ((λ i. is i ∷ number.0 i), number.1, number.2)

is_number_of : (n : ℕ) → 1 ≤ n → n ≤ 32766 → parameter_of (63 ∷ decimal n) ≡ Some n
is_number_of n some small =
    let read = decimal_is_IsNumeral n (omega arith) in
    decimal_found n (decimal n) read.0.1 read.1 (first_decimal n (omega arith) (omega arith)) small

pub are_decimal : ParametersAreDecimal
are_decimal name n = (name_is name n, λ h. ap parameter_of h.0 ∙ is_number_of n h.1 h.2)
