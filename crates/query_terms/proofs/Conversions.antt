-- The function that converts a value gives what the relation between an old and a new value asks for.
use Rattle.std.proofs.Common.{◌≡◌, refl, sym, ap, ◌∙◌, ℕ, ◌<◌, ◌≤◌, ◌&&◌, ◌||◌, ◌==◌, ◌-◌, List, [], ◌∷◌, length, drop, subst, Bool, true, false, cond, ℤ, pos, negsuc, Some, None, Ok, Err, arith, nat_lt}
use Rattle.std.proofs.lemmas.Bool.Decides.{nat_tests}
use mathlib.Core.Bool.{true≢false}
use Rattle.std.specs.Char.{digit_value, is_ascii_digit}
use Rattle.std.specs.List.{list_all}
use Rattle.std.specs.Int.{w64}
use Rattle.std.specs.Int.RustNames.{FitsSigned}
use Rattle.std.specs.Str.Parse.{AllDigits, IsNumeral, signed_digits_value, without_leading_sign}
use Rattle.std.proofs.lemmas.Str.{digit_value_digit}
use Rattle.std.proofs.lemmas.Str.Parse.{digit_from_value}
use Rattle.sqlval.specs.Affinity.{Converts, IsReal, IsWhole, ToNumber, ToText, is_number, rest_after_digits, after_digits, after_sign, after_spaces, is_space}
use Rattle.sqlval.specs.Conversion.{converted, is_word, word, are_digits, to_number, whole}
use Rattle.sqlval.specs.Refusals.{RealRefused}
use Rattle.sqlval.specs.declared.affinity.Affinity.{Affinity}
use Rattle.sqlval.specs.declared.affinity.Affinity.TheVariants as to
use Rattle.sqlval.specs.declared.value.Value.{Value}
use Rattle.sqlval.specs.declared.value.Value.TheVariants.{Null, Int, Text, Blob}

both : (x y : Bool) → x ≡ true → y ≡ true → (x && y) ≡ true
both true y h k = k
both false y h k = h

digit : (c : ℕ) → digit_value c < 10 → is_ascii_digit c ≡ true
digit c h = let r = digit_from_value c h in grind (arith, nat_tests)

all_digits : (ds : List ℕ) → AllDigits 10 ds → list_all is_ascii_digit ds ≡ true
all_digits [] h = refl
all_digits (c ∷ cs) h = both (is_ascii_digit c) (list_all is_ascii_digit cs) (digit c h.0) (all_digits cs h.1)

numeral : (ds : List ℕ) → IsNumeral 10 ds → are_digits ds ≡ true
numeral ds h = let k : 0 < length ds = h.0 in both (nat_lt 0 (length ds)) (list_all is_ascii_digit ds) (grind (arith, nat_tests)) (all_digits ds h.1)

fits : (n : ℤ) → FitsSigned w64 n → is_word n ≡ true
fits (pos n) h = let k = h.sfits in grind (arith, nat_tests)
fits (negsuc n) h = let k = h.sfits in grind (arith, nat_tests)

-- the whole number of a text
pub whole_number : (text : List ℕ) (n : ℤ) → IsWhole text n → to_number text (whole text) ≡ Ok (Int n)
whole_number text n h =
    ap (λ b. to_number text (cond b (Some (signed_digits_value 10 text)) None)) (numeral (without_leading_sign text) h.digits)
    ∙ (ap word (sym h.value) ∙ ap (λ b. cond b (Ok (Int n)) (Err RealRefused)) (fits n h.fits))

-- ---- a whole number has a number's shape

left : (x y : Bool) → (x && y) ≡ true → x ≡ true
left true y h = refl
left false y h = h

right : (x y : Bool) → (x && y) ≡ true → y ≡ true
right true y h = h
right false y h = absurd (true≢false (sym h))

digits_end : (ds : List ℕ) → list_all is_ascii_digit ds ≡ true → after_digits ds ≡ []
digits_end [] h = refl
digits_end (c ∷ cs) h =
    ap (λ b. cond b (after_digits cs) (c ∷ cs)) (left (is_ascii_digit c) (list_all is_ascii_digit cs) h)
    ∙ digits_end cs (right (is_ascii_digit c) (list_all is_ascii_digit cs) h)

-- digits after spaces and a sign or none
past_sign : (text ds : List ℕ) → after_sign (after_spaces text) ≡ ds → are_digits ds ≡ true → is_number text ≡ true
unfolding is_number rest_after_digits
past_sign text ds h k =
    ap (λ s. rest_after_digits (length s - length (after_digits s)) (after_digits s)) h
    ∙ (ap (λ s. rest_after_digits (length ds - length s) s) (digits_end ds (right (nat_lt 0 (length ds)) (list_all is_ascii_digit ds) k))
    ∙ some (left (nat_lt 0 (length ds)) (list_all is_ascii_digit ds) k))
  where
    some : nat_lt 0 (length ds) ≡ true → nat_lt 0 (length ds - 0) ≡ true
    some e = grind (arith, nat_tests)

no_sign : (c : ℕ) (cs : List ℕ) → is_ascii_digit c ≡ true → after_sign (after_spaces (c ∷ cs)) ≡ c ∷ cs
no_sign c cs h =
    ap (λ b. after_sign (cond b (after_spaces cs) (c ∷ cs))) (not_space c h)
    ∙ ap (λ b. cond b cs (c ∷ cs)) (not_sign c h)
  where
    not_space : (c : ℕ) → is_ascii_digit c ≡ true → is_space c ≡ false
    not_space c h = grind (arith, nat_tests)

    not_sign : (c : ℕ) → is_ascii_digit c ≡ true → ((c == 43) || (c == 45)) ≡ false
    not_sign c h = grind (arith, nat_tests)

-- by the tests of the first byte
by_tests : (c : ℕ) (cs : List ℕ) (minus plus : Bool) → (c == 45) ≡ minus → (c == 43) ≡ plus → are_digits (cond minus cs (drop (cond plus 1 0) (c ∷ cs))) ≡ true → is_number (c ∷ cs) ≡ true
by_tests c cs true plus e f h = past_sign (c ∷ cs) cs (subst (λ x. after_sign (after_spaces (x ∷ cs)) ≡ cs) (sym same) refl) h
  where
    same : c ≡ 45
    same = grind (arith, nat_tests)
by_tests c cs false true e f h = past_sign (c ∷ cs) cs (subst (λ x. after_sign (after_spaces (x ∷ cs)) ≡ cs) (sym same) refl) h
  where
    same : c ≡ 43
    same = grind (arith, nat_tests)
by_tests c cs false false e f h =
    past_sign (c ∷ cs) (c ∷ cs) (no_sign c cs (left (is_ascii_digit c) (list_all is_ascii_digit cs) (right (nat_lt 0 (length (c ∷ cs))) (list_all is_ascii_digit (c ∷ cs)) h))) h

pub whole_is_number : (text : List ℕ) → are_digits (without_leading_sign text) ≡ true → is_number text ≡ true
whole_is_number [] h = absurd (true≢false (sym h))
whole_is_number (c ∷ cs) h = by_tests c cs (c == 45) (c == 43) refl refl h

-- a text of no number's shape stays
pub other_text : (text : List ℕ) → is_number text ≡ false → to_number text (whole text) ≡ Ok (Text text)
other_text text h = by (are_digits (without_leading_sign text)) refl
  where
    by : (b : Bool) → are_digits (without_leading_sign text) ≡ b → to_number text (cond b (Some (signed_digits_value 10 text)) None) ≡ Ok (Text text)
    by true e = absurd (true≢false (sym (whole_is_number text e) ∙ h))
    by false e = ap (λ b. cond b (Err RealRefused) (Ok (Text text))) h

-- ---- a number of another shape is refused

value_below : (c : ℕ) → is_ascii_digit c ≡ true → digit_value c < 10
value_below c h =
    let low : 48 ≤ c = grind (arith, nat_tests) in
    let high : c ≤ 57 = grind (arith, nat_tests) in
    let e = digit_value_digit c (low, high) in omega (arith, e, high)

from_digits : (ds : List ℕ) → list_all is_ascii_digit ds ≡ true → AllDigits 10 ds
from_digits [] h = tt
from_digits (c ∷ cs) h = (value_below c (left (is_ascii_digit c) (list_all is_ascii_digit cs) h), from_digits cs (right (is_ascii_digit c) (list_all is_ascii_digit cs) h))

is_numeral : (ds : List ℕ) → are_digits ds ≡ true → IsNumeral 10 ds
is_numeral ds h = (some (left (nat_lt 0 (length ds)) (list_all is_ascii_digit ds) h), from_digits ds (right (nat_lt 0 (length ds)) (list_all is_ascii_digit ds) h))
  where
    some : nat_lt 0 (length ds) ≡ true → 0 < length ds
    some e = grind (arith, nat_tests)

has_64_bits : (n : ℤ) → is_word n ≡ true → FitsSigned w64 n
has_64_bits (pos n) h = record { sfits = grind (arith, nat_tests) }
has_64_bits (negsuc n) h = record { sfits = grind (arith, nat_tests) }

pub real : (text : List ℕ) → is_number text ≡ true → ((n : ℤ) → IsWhole text n → ⊥) → to_number text (whole text) ≡ Err RealRefused
real text h none' = by (are_digits (without_leading_sign text)) refl
  where
    value : ℤ
    value = signed_digits_value 10 text

    in_words : are_digits (without_leading_sign text) ≡ true → (b : Bool) → is_word value ≡ b → cond b (Ok (Int value)) (Err RealRefused) ≡ Err RealRefused
    in_words e true k = absurd (none' value (record { digits = is_numeral (without_leading_sign text) e; fits = has_64_bits value k; value = refl }))
    in_words e false k = refl

    by : (b : Bool) → are_digits (without_leading_sign text) ≡ b → to_number text (cond b (Some value) None) ≡ Err RealRefused
    by true e = in_words e (is_word value) refl
    by false e = ap (λ b. cond b (Err RealRefused) (Ok (Text text))) h

-- ---- all affinities

whole_numbers : (old new : Value) → ToNumber old new → converted to.Numeric old ≡ Ok new
whole_numbers (Text t) (Int n) h = whole_number t n h
whole_numbers (Text t) Null h = other_text t h.1 ∙ ap (λ x. Ok x) (sym h.0)
whole_numbers (Text t) (Text u) h = other_text t h.1 ∙ ap (λ x. Ok x) (sym h.0)
whole_numbers (Text t) (Blob b) h = other_text t h.1 ∙ ap (λ x. Ok x) (sym h.0)
whole_numbers Null new h = ap (λ x. Ok x) (sym h)
whole_numbers (Int n) new h = ap (λ x. Ok x) (sym h)
whole_numbers (Blob b) new h = ap (λ x. Ok x) (sym h)

integers : (old new : Value) → ToNumber old new → converted to.Integer old ≡ Ok new
integers (Text t) new h = whole_numbers (Text t) new h
integers Null new h = ap (λ x. Ok x) (sym h)
integers (Int n) new h = ap (λ x. Ok x) (sym h)
integers (Blob b) new h = ap (λ x. Ok x) (sym h)

texts : (old new : Value) → ToText old new → converted to.Text old ≡ Ok new
texts (Int n) new h = ap (λ x. Ok x) (sym h)
texts Null new h = ap (λ x. Ok x) (sym h)
texts (Text t) new h = ap (λ x. Ok x) (sym h)
texts (Blob b) new h = ap (λ x. Ok x) (sym h)

-- what the relation gives, the function gives
pub converted_to : (affinity : Affinity) (old new : Value) → Converts affinity old new → converted affinity old ≡ Ok new
converted_to to.Blob old new h = ap (λ x. Ok x) (sym h)
converted_to to.Text old new h = texts old new h
converted_to to.Numeric old new h = whole_numbers old new h
converted_to to.Integer old new h = integers old new h

-- what is a real, the function refuses where numbers are wanted
pub refused_as_real : (old : Value) → IsReal old → (converted to.Integer old ≡ Err RealRefused) × (converted to.Numeric old ≡ Err RealRefused)
refused_as_real (Text t) h = (real t h.0 h.1, real t h.0 h.1)
refused_as_real Null h = absurd h
refused_as_real (Int n) h = absurd h
refused_as_real (Blob b) h = absurd h
