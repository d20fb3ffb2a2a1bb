-- The test of a number's shape is passed by the texts of that shape, and by no others.
use Rattle.std.proofs.Common.{◌≡◌, ◌⊎◌, inl, inr, ◌<◌, ◌≤◌, ◌+◌, ◌-◌, ℕ, zero, suc, true, false, true≢false, Bool, List, [], ◌∷◌, ◌++◌, length, refl, sym, ◌∙◌, ap, subst, arith, length-append}
use Rattle.std.specs.Prelude.{◌==◌, ◌||◌, ◌&&◌, nat_lt, if◌then◌else◌, ⊤}
use Rattle.std.specs.Char.{is_ascii_digit}
use Rattle.std.proofs.lemmas.Bool.{and_parts, and_from, ltb-true, lt-ltb, eqb-true}
use Rattle.std.proofs.lemmas.List.{append_assoc, append-nil}
use Rattle.std.proofs.lemmas.Bool.Decides.{nat_tests}
use Rattle.sqlval.specs.Affinity.{is_space, after_spaces, after_digits, after_sign, ends_exponent, ends_number, rest_after_digits, is_number}
use Rattle.sqlval.specs.NumberShape.{Each, IsSign, unsigned, plus_sign, minus_sign, IsMantissa, integral, pointed, IsExponent, no_exponent, exponent_of, IsNumberText, number_text, NumbersAreShaped}

both_ways : {P : Type 0} (b : Bool) → (b ≡ true → P) → (b ≡ false → P) → P
both_ways true hit miss = hit refl
both_ways false hit miss = miss refl

if_true : {A : Type 0} (b : Bool) (x y : A) → b ≡ true → (if b then x else y) ≡ x
if_true true x y is = refl
if_true false x y is = absurd (true≢false (sym is))

if_false : {A : Type 0} (b : Bool) (x y : A) → b ≡ false → (if b then x else y) ≡ y
if_false true x y is = absurd (true≢false is)
if_false false x y is = refl

or_cases : (a b : Bool) → (a || b) ≡ true → (a ≡ true) ⊎ (b ≡ true)
or_cases true b is = inl refl
or_cases false b is = inr is

empty_of : (l : List ℕ) → length l ≡ 0 → l ≡ []
empty_of [] is = refl
empty_of (b ∷ bs) is = absurd (omega (arith, is))

-- whether a text begins with such a byte
abbrev begins_so : (ℕ → Bool) → List ℕ → Bool
begins_so test [] = false
begins_so test (b ∷ bs) = test b

-- what skips all bytes of one kind at the front
module _ (test : ℕ → Bool) (skip : List ℕ → List ℕ) (none : skip [] ≡ []) (goes : (b : ℕ) (bs : List ℕ) → test b ≡ true → skip (b ∷ bs) ≡ skip bs)
    (ends : (b : ℕ) (bs : List ℕ) → test b ≡ false → skip (b ∷ bs) ≡ b ∷ bs) where
  span : (text : List ℕ) → (front : List ℕ) × Each test front × (text ≡ front ++ skip text)
  span [] = ([], tt, sym none)
  span (b ∷ bs) = both_ways (test b)
      (λ hit. let s = span bs in (b ∷ s.0, (hit, s.1), ap (λ (t : List ℕ). b ∷ t) (s.2 ∙ ap (λ (t : List ℕ). s.0 ++ t) (sym (goes b bs hit)))))
      (λ miss. ([], tt, sym (ends b bs miss)))

  skipped : (front rest : List ℕ) → Each test front → begins_so test rest ≡ false → skip (front ++ rest) ≡ rest
  skipped [] [] each miss = none
  skipped [] (b ∷ bs) each miss = ends b bs miss
  skipped (b ∷ front) rest each miss = goes b (front ++ rest) each.0 ∙ skipped front rest each.1 miss

spaces_span : (text : List ℕ) → (front : List ℕ) × Each is_space front × (text ≡ front ++ after_spaces text)
spaces_span = span is_space after_spaces refl (λ b bs hit. if_true (is_space b) _ _ hit) (λ b bs miss. if_false (is_space b) _ _ miss)

digits_span : (text : List ℕ) → (front : List ℕ) × Each is_ascii_digit front × (text ≡ front ++ after_digits text)
digits_span = span is_ascii_digit after_digits refl (λ b bs hit. if_true (is_ascii_digit b) _ _ hit) (λ b bs miss. if_false (is_ascii_digit b) _ _ miss)

no_spaces : (front rest : List ℕ) → Each is_space front → begins_so is_space rest ≡ false → after_spaces (front ++ rest) ≡ rest
no_spaces = skipped is_space after_spaces refl (λ b bs hit. if_true (is_space b) _ _ hit) (λ b bs miss. if_false (is_space b) _ _ miss)

no_digits : (front rest : List ℕ) → Each is_ascii_digit front → begins_so is_ascii_digit rest ≡ false → after_digits (front ++ rest) ≡ rest
no_digits = skipped is_ascii_digit after_digits refl (λ b bs hit. if_true (is_ascii_digit b) _ _ hit) (λ b bs miss. if_false (is_ascii_digit b) _ _ miss)

abbrev is_sign_byte : ℕ → Bool
is_sign_byte b = b == 43 || b == 45

sign_span : (text : List ℕ) → (sign : List ℕ) × IsSign sign × (text ≡ sign ++ after_sign text)
sign_span [] = ([], unsigned, refl)
sign_span (b ∷ bs) = both_ways (is_sign_byte b)
    (λ hit. (b ∷ [], signs (or_cases (b == 43) (b == 45) hit), ap (λ (t : List ℕ). b ∷ t) (sym (if_true (is_sign_byte b) bs (b ∷ bs) hit))))
    (λ miss. ([], unsigned, sym (if_false (is_sign_byte b) bs (b ∷ bs) miss)))
  where
    signs : (b == 43) ≡ true ⊎ (b == 45) ≡ true → IsSign (b ∷ [])
    signs (inl is) = subst (λ (n : ℕ). IsSign (n ∷ [])) (sym (eqb-true _ _ is)) plus_sign
    signs (inr is) = subst (λ (n : ℕ). IsSign (n ∷ [])) (sym (eqb-true _ _ is)) minus_sign

no_sign : (sign rest : List ℕ) → IsSign sign → begins_so is_sign_byte rest ≡ false → after_sign (sign ++ rest) ≡ rest
no_sign _ [] unsigned miss = refl
no_sign _ (b ∷ bs) unsigned miss = if_false (is_sign_byte b) bs (b ∷ bs) miss
no_sign _ rest plus_sign miss = refl
no_sign _ rest minus_sign miss = refl

spaces_alone : (text : List ℕ) → length (after_spaces text) ≡ 0 → Each is_space text
spaces_alone text is =
    let s = spaces_span text in
    subst (λ (t : List ℕ). Each is_space t) (sym (s.2 ∙ ap (λ (t : List ℕ). s.0 ++ t) (empty_of (after_spaces text) is) ∙ append-nil s.0)) s.1

-- ---- what passes has the shape

record IsEnd (text : List ℕ) : Type 0 where
  exponent : List ℕ
  back : List ℕ
  powers : IsExponent exponent
  spaces : Each is_space back
  is : text ≡ exponent ++ back

end_of_exponent : (b : ℕ) (bs : List ℕ) → (b ≡ 101) ⊎ (b ≡ 69) → ends_exponent (after_sign bs) ≡ true → IsEnd (b ∷ bs)
unfolding ends_exponent
end_of_exponent b bs letter passes =
    let s = sign_span bs in
    let d = digits_span (after_sign bs) in
    let rest = after_digits (after_sign bs) in
    let parts = and_parts _ _ passes in
    let some : 0 < length d.0 = omega (arith, ltb-true (length (after_digits (after_sign bs))) (length (after_sign bs)) parts.0, ap length d.2, length-append d.0 rest) in
    record {
      exponent = b ∷ (s.0 ++ d.0);
      back = rest;
      powers = exponent_of b s.0 d.0 letter s.1 d.1 some;
      spaces = spaces_alone rest (eqb-true _ _ parts.1);
      is = ap (λ (t : List ℕ). b ∷ t) (s.2 ∙ ap (λ (t : List ℕ). s.0 ++ t) d.2 ∙ sym (append_assoc s.0 d.0 rest));
    }

end_shape : (text : List ℕ) → ends_number text ≡ true → IsEnd text
unfolding ends_number
end_shape [] passes = record { exponent = []; back = []; powers = no_exponent; spaces = tt; is = refl }
end_shape (b ∷ bs) passes = both_ways (b == 101 || b == 69)
    (λ hit. end_of_exponent b bs (letters (or_cases (b == 101) (b == 69) hit)) (sym (if_true (b == 101 || b == 69) _ _ hit) ∙ passes))
    (λ miss. record { exponent = []; back = b ∷ bs; powers = no_exponent; spaces = spaces_alone (b ∷ bs) (eqb-true _ _ (sym (if_false (b == 101 || b == 69) _ _ miss) ∙ passes)); is = refl })
  where
    letters : (b == 101) ≡ true ⊎ (b == 69) ≡ true → (b ≡ 101) ⊎ (b ≡ 69)
    letters (inl is) = inl (eqb-true _ _ is)
    letters (inr is) = inr (eqb-true _ _ is)

record IsTail (whole rest : List ℕ) : Type 0 where
  mantissa : List ℕ
  tail : List ℕ
  numbers : IsMantissa mantissa
  ends : IsEnd tail
  is : whole ++ rest ≡ mantissa ++ tail

tail_shape : (whole rest : List ℕ) → Each is_ascii_digit whole → rest_after_digits (length whole) rest ≡ true → IsTail whole rest
unfolding rest_after_digits
tail_shape whole [] digits passes = record {
  mantissa = whole;
  tail = [];
  numbers = integral digits (ltb-true _ _ passes);
  ends = record { exponent = []; back = []; powers = no_exponent; spaces = tt; is = refl };
  is = refl;
}
tail_shape whole (b ∷ bs) digits passes = both_ways (b == 46) point no_point
  where
    point : (b == 46) ≡ true → IsTail whole (b ∷ bs)
    point hit =
        let parts = and_parts _ _ (sym (if_true (b == 46) _ _ hit) ∙ passes) in
        let d = digits_span bs in
        let rest = after_digits bs in
        let some : 0 < length whole + length d.0 = omega (arith, ltb-true 0 (length whole + (length bs - length (after_digits bs))) parts.0, ap length d.2, length-append d.0 rest) in
        record {
          mantissa = whole ++ (46 ∷ d.0);
          tail = rest;
          numbers = pointed whole d.0 digits d.1 some;
          ends = end_shape rest parts.1;
          is = ap (λ (n : ℕ). whole ++ (n ∷ bs)) (eqb-true _ _ hit) ∙ ap (λ (t : List ℕ). whole ++ (46 ∷ t)) d.2 ∙ sym (append_assoc whole (46 ∷ d.0) rest);
        }

    no_point : (b == 46) ≡ false → IsTail whole (b ∷ bs)
    no_point miss =
        let parts = and_parts _ _ (sym (if_false (b == 46) _ _ miss) ∙ passes) in
        record { mantissa = whole; tail = b ∷ bs; numbers = integral digits (ltb-true _ _ parts.0); ends = end_shape (b ∷ bs) parts.1; is = refl }

shaped : (text : List ℕ) → is_number text ≡ true → IsNumberText text
unfolding is_number
shaped text passes =
    let f = spaces_span text in
    let s = sign_span (after_spaces text) in
    let number = after_sign (after_spaces text) in
    let d = digits_span number in
    let rest = after_digits number in
    let count : length number - length rest ≡ length d.0 = omega (arith, ap length d.2, length-append d.0 rest) in
    let t = tail_shape d.0 rest d.1 (subst (λ (n : ℕ). rest_after_digits n rest ≡ true) count passes) in
    let whole : text ≡ f.0 ++ (s.0 ++ (t.mantissa ++ (t.ends.exponent ++ t.ends.back))) =
    f.2 ∙ ap (λ (r : List ℕ). f.0 ++ r) (s.2 ∙ ap (λ (r : List ℕ). s.0 ++ r) (d.2 ∙ t.is ∙ ap (λ (r : List ℕ). t.mantissa ++ r) t.ends.is)) in
    subst IsNumberText (sym whole) (number_text f.0 s.0 t.mantissa t.ends.exponent t.ends.back f.1 s.1 t.numbers t.ends.powers t.ends.spaces)

-- ---- bytes of different kinds

space_no_digit : (b : ℕ) → is_space b ≡ true → is_ascii_digit b ≡ false
space_no_digit b is = grind (arith, nat_tests)

space_no_letter : (b : ℕ) → is_space b ≡ true → (b == 101 || b == 69) ≡ false
space_no_letter b is = grind (arith, nat_tests)

digit_no_sign : (b : ℕ) → is_ascii_digit b ≡ true → is_sign_byte b ≡ false
digit_no_sign b is = grind (arith, nat_tests)

digit_no_space : (b : ℕ) → is_ascii_digit b ≡ true → is_space b ≡ false
digit_no_space b is = grind (arith, nat_tests)

digit_no_point : (b : ℕ) → is_ascii_digit b ≡ true → (b == 46) ≡ false
digit_no_point b is = grind (arith, nat_tests)

is_letter : (letter : ℕ) → (letter ≡ 101) ⊎ (letter ≡ 69) → (letter == 101 || letter == 69) ≡ true
is_letter letter (inl is) = subst (λ (n : ℕ). (n == 101 || n == 69) ≡ true) (sym is) refl
is_letter letter (inr is) = subst (λ (n : ℕ). (n == 101 || n == 69) ≡ true) (sym is) refl

unsigned_digits : (digits rest : List ℕ) → Each is_ascii_digit digits → 0 < length digits → begins_so is_sign_byte (digits ++ rest) ≡ false
unsigned_digits [] rest all some = absurd (omega (arith, some))
unsigned_digits (b ∷ bs) rest all some = digit_no_sign b all.0

-- ---- what has the shape passes

-- the first byte of the tail is no digit, and the tail passes
digits_end : (exponent back : List ℕ) → IsExponent exponent → Each is_space back → begins_so is_ascii_digit (exponent ++ back) ≡ false
digits_end _ [] no_exponent spaces = refl
digits_end _ (b ∷ bs) no_exponent spaces = space_no_digit b spaces.0
digits_end _ back (exponent_of letter sign digits (inl is) signed all some) spaces = subst (λ (n : ℕ). is_ascii_digit n ≡ false) (sym is) refl
digits_end _ back (exponent_of letter sign digits (inr is) signed all some) spaces = subst (λ (n : ℕ). is_ascii_digit n ≡ false) (sym is) refl

after_spaces_all : (back : List ℕ) → Each is_space back → after_spaces back ≡ []
after_spaces_all back spaces = ap after_spaces (sym (append-nil back)) ∙ no_spaces back [] spaces refl

exponent_passes : (sign digits back : List ℕ) → IsSign sign → Each is_ascii_digit digits → 0 < length digits → Each is_space back → ends_exponent (after_sign ((sign ++ digits) ++ back)) ≡ true
unfolding ends_exponent
exponent_passes sign digits back signed all some spaces =
    let at : after_sign ((sign ++ digits) ++ back) ≡ digits ++ back = ap after_sign (append_assoc sign digits back) ∙ no_sign sign (digits ++ back) signed (unsigned_digits digits back all some) in
    let rest : after_digits (digits ++ back) ≡ back = no_digits digits back all (digits_end [] back no_exponent spaces) in
    subst (λ (t : List ℕ). ends_exponent t ≡ true) (sym at)
    (and_from _ _ (lt-ltb _ _ (omega (arith, ap length rest, length-append digits back, some)))
    (ap (λ (t : List ℕ). length t == 0) (ap after_spaces rest ∙ after_spaces_all back spaces)))

end_passes : (exponent back : List ℕ) → IsExponent exponent → Each is_space back → ends_number (exponent ++ back) ≡ true
unfolding ends_number
end_passes _ [] no_exponent spaces = refl
end_passes _ (b ∷ bs) no_exponent spaces =
    if_false (b == 101 || b == 69) _ _ (space_no_letter b spaces.0) ∙ ap (λ (t : List ℕ). length t == 0) (after_spaces_all (b ∷ bs) spaces)
end_passes _ back (exponent_of letter sign digits which signed all some) spaces =
    if_true (letter == 101 || letter == 69) _ _ (is_letter letter which) ∙ exponent_passes sign digits back signed all some spaces

-- a mantissa begins with a digit or a point
mantissa_begins : (test : ℕ → Bool) → ((b : ℕ) → is_ascii_digit b ≡ true → test b ≡ false) → test 46 ≡ false → (mantissa rest : List ℕ) → IsMantissa mantissa → begins_so test (mantissa ++ rest) ≡ false
mantissa_begins test digit point [] rest (integral all some) = absurd (omega (arith, some))
mantissa_begins test digit point (b ∷ bs) rest (integral all some) = digit b all.0
mantissa_begins test digit point _ rest (pointed [] part whole_all part_all some) = point
mantissa_begins test digit point _ rest (pointed (b ∷ bs) part whole_all part_all some) = digit b whole_all.0

sign_begins : (sign mantissa rest : List ℕ) → IsSign sign → IsMantissa mantissa → begins_so is_space (sign ++ (mantissa ++ rest)) ≡ false
sign_begins _ mantissa rest unsigned numbers = mantissa_begins is_space digit_no_space refl mantissa rest numbers
sign_begins _ mantissa rest plus_sign numbers = refl
sign_begins _ mantissa rest minus_sign numbers = refl

space_no_point : (b : ℕ) → is_space b ≡ true → (b == 46) ≡ false
space_no_point b is = grind (arith, nat_tests)

-- digits and a tail that isn't a point
plain_tail : (n : ℕ) (exponent back : List ℕ) → 0 < n → IsExponent exponent → Each is_space back → rest_after_digits n (exponent ++ back) ≡ true
unfolding rest_after_digits
plain_tail n _ [] some no_exponent spaces = lt-ltb 0 n some
plain_tail n _ (b ∷ bs) some no_exponent spaces =
    if_false (b == 46) _ _ (space_no_point b spaces.0) ∙ and_from _ _ (lt-ltb 0 n some) (end_passes [] (b ∷ bs) no_exponent spaces)
plain_tail n _ back some (exponent_of letter sign digits which signed all some_digits) spaces =
    if_false (letter == 46) _ _ (no_point which) ∙ and_from _ _ (lt-ltb 0 n some) (end_passes (letter ∷ (sign ++ digits)) back (exponent_of letter sign digits which signed all some_digits) spaces)
  where
    no_point : (letter ≡ 101) ⊎ (letter ≡ 69) → (letter == 46) ≡ false
    no_point (inl is) = subst (λ (k : ℕ). (k == 46) ≡ false) (sym is) refl
    no_point (inr is) = subst (λ (k : ℕ). (k == 46) ≡ false) (sym is) refl

-- a point, digits and a tail
after_point : (n : ℕ) (part exponent back : List ℕ) → Each is_ascii_digit part → 0 < n + length part → IsExponent exponent → Each is_space back → rest_after_digits n (46 ∷ (part ++ (exponent ++ back))) ≡ true
unfolding rest_after_digits
after_point n part exponent back all some powers spaces =
    let tail = exponent ++ back in
    let rest : after_digits (part ++ tail) ≡ tail = no_digits part tail all (digits_end exponent back powers spaces) in
    and_from _ _ (lt-ltb 0 (n + (length (part ++ tail) - length (after_digits (part ++ tail)))) (omega (arith, ap length rest, length-append part tail, some)))
    (ap ends_number rest ∙ end_passes exponent back powers spaces)

-- what stands after the digits passes
number_passes : (mantissa exponent back : List ℕ) → IsMantissa mantissa → IsExponent exponent → Each is_space back
    → rest_after_digits (length (mantissa ++ (exponent ++ back)) - length (after_digits (mantissa ++ (exponent ++ back)))) (after_digits (mantissa ++ (exponent ++ back))) ≡ true
number_passes digits exponent back (integral all some) powers spaces =
    let tail = exponent ++ back in
    let rest : after_digits (digits ++ tail) ≡ tail = no_digits digits tail all (digits_end exponent back powers spaces) in
    let count : length (digits ++ tail) - length (after_digits (digits ++ tail)) ≡ length digits = omega (arith, ap length rest, length-append digits tail) in
    ap (λ (n : ℕ). rest_after_digits n (after_digits (digits ++ tail))) count ∙ ap (rest_after_digits (length digits)) rest ∙ plain_tail (length digits) exponent back some powers spaces
number_passes _ exponent back (pointed whole part whole_all part_all some) powers spaces =
    let tail = exponent ++ back in
    let after = 46 ∷ (part ++ tail) in
    let text : (whole ++ (46 ∷ part)) ++ tail ≡ whole ++ after = append_assoc whole (46 ∷ part) tail in
    let rest : after_digits ((whole ++ (46 ∷ part)) ++ tail) ≡ after = ap after_digits text ∙ no_digits whole after whole_all refl in
    let count : length ((whole ++ (46 ∷ part)) ++ tail) - length (after_digits ((whole ++ (46 ∷ part)) ++ tail)) ≡ length whole = omega (arith, ap length rest, ap length text, length-append whole after) in
    ap (λ (n : ℕ). rest_after_digits n (after_digits ((whole ++ (46 ∷ part)) ++ tail))) count ∙ ap (rest_after_digits (length whole)) rest
    ∙ after_point (length whole) part exponent back part_all some powers spaces

passes_shaped : (text : List ℕ) → IsNumberText text → is_number text ≡ true
unfolding is_number
passes_shaped _ (number_text front sign mantissa exponent back spaces signed numbers powers ends) =
    let tail = mantissa ++ (exponent ++ back) in
    let at : after_sign (after_spaces (front ++ (sign ++ tail))) ≡ tail =
    ap after_sign (no_spaces front (sign ++ tail) spaces (sign_begins sign mantissa (exponent ++ back) signed numbers))
    ∙ no_sign sign tail signed (mantissa_begins is_sign_byte digit_no_sign refl mantissa (exponent ++ back) numbers) in
    subst (λ (t : List ℕ). rest_after_digits (length t - length (after_digits t)) (after_digits t) ≡ true) (sym at) (number_passes mantissa exponent back numbers powers ends)

pub numbers_shaped : NumbersAreShaped
numbers_shaped text = (shaped text, passes_shaped text)
