-- Reading a line's number gives what the line says, and nothing where it says nothing.
use Rattle.std.proofs.Common.{Bool, ◌≡◌, ◌∙◌, ap, sym, refl, subst, true, false, ◌&&◌, ◌==◌, ℕ, zero, suc, ◌+◌, ◌-◌, ◌≤◌, nat_le, List, [], ◌∷◌, ◌++◌, decimal, Option, Some, None, is_some, arith, if◌then◌else◌}
use Rattle.std.specs.Fmt.{digits}
use Rattle.std.proofs.lemmas.Bool.Decides.{nat_tests}
use Rattle.std.proofs.lemmas.Fmt.{decimal_digit}
use Rattle.engine.specs.Lines.{IsInputLine, SaysNothing, line_number_at, second_digit}

read_back : (n : ℕ) (s : List ℕ) → 1 ≤ n → n ≤ 16 → line_number_at (decimal n ++ 32 ∷ s) ≡ Some (n, s)
unfolding line_number_at digits
read_back zero s low high = absurd (omega (arith, low))
read_back (suc zero) s low high = refl
read_back (suc (suc zero)) s low high = refl
read_back (suc (suc (suc zero))) s low high = refl
read_back (suc (suc (suc (suc zero)))) s low high = refl
read_back (suc (suc (suc (suc (suc zero))))) s low high = refl
read_back (suc (suc (suc (suc (suc (suc zero)))))) s low high = refl
read_back (suc (suc (suc (suc (suc (suc (suc zero))))))) s low high = refl
read_back (suc (suc (suc (suc (suc (suc (suc (suc zero)))))))) s low high = refl
read_back (suc (suc (suc (suc (suc (suc (suc (suc (suc zero))))))))) s low high = refl
read_back (suc (suc (suc (suc (suc (suc (suc (suc (suc (suc zero)))))))))) s low high = refl
read_back (suc (suc (suc (suc (suc (suc (suc (suc (suc (suc (suc zero))))))))))) s low high = refl
read_back (suc (suc (suc (suc (suc (suc (suc (suc (suc (suc (suc (suc zero)))))))))))) s low high = refl
read_back (suc (suc (suc (suc (suc (suc (suc (suc (suc (suc (suc (suc (suc zero))))))))))))) s low high = refl
read_back (suc (suc (suc (suc (suc (suc (suc (suc (suc (suc (suc (suc (suc (suc zero)))))))))))))) s low high = refl
read_back (suc (suc (suc (suc (suc (suc (suc (suc (suc (suc (suc (suc (suc (suc (suc zero))))))))))))))) s low high = refl
read_back (suc (suc (suc (suc (suc (suc (suc (suc (suc (suc (suc (suc (suc (suc (suc (suc zero)))))))))))))))) s low high = refl
read_back (suc (suc (suc (suc (suc (suc (suc (suc (suc (suc (suc (suc (suc (suc (suc (suc (suc n))))))))))))))))) s low high = absurd (omega (arith, high))

pub said_is_read : (line : List ℕ) (n : ℕ) (s : List ℕ) → IsInputLine line n s → line_number_at line ≡ Some (n, s)
said_is_read line n s says = ap line_number_at says.spelled ∙ read_back n s says.least says.greatest

-- what the tests of one digit and a space say
digit_low : (a b : ℕ) → (nat_le 49 a && (nat_le a 57 && b == 32)) ≡ true → 49 ≤ a
digit_low a b h = grind (arith, nat_tests)

digit_high : (a b : ℕ) → (nat_le 49 a && (nat_le a 57 && b == 32)) ≡ true → a ≤ 57
digit_high a b h = grind (arith, nat_tests)

digit_space : (a b : ℕ) → (nat_le 49 a && (nat_le a 57 && b == 32)) ≡ true → b ≡ 32
digit_space a b h = grind (arith, nat_tests)

one_digit : (a : ℕ) (rest : List ℕ) → 49 ≤ a → a ≤ 57 → IsInputLine (a ∷ 32 ∷ rest) (a - 48) rest
one_digit a rest low high = record {
  least = omega (arith, low);
  greatest = omega (arith, low, high);
  spelled =
      let glyph : 48 + (a - 48) ≡ a = omega (arith, low) in
      ap (λ (c : ℕ). c ∷ 32 ∷ rest) (sym glyph) ∙ ap (λ (ds : List ℕ). ds ++ 32 ∷ rest) (sym (decimal_digit (a - 48) (omega (arith, low, high))));
}

ten_and : (k : ℕ) → k ≤ 6 → decimal (10 + k) ≡ 49 ∷ (48 + k) ∷ []
unfolding digits
ten_and zero le = refl
ten_and (suc zero) le = refl
ten_and (suc (suc zero)) le = refl
ten_and (suc (suc (suc zero))) le = refl
ten_and (suc (suc (suc (suc zero)))) le = refl
ten_and (suc (suc (suc (suc (suc zero))))) le = refl
ten_and (suc (suc (suc (suc (suc (suc zero)))))) le = refl
ten_and (suc (suc (suc (suc (suc (suc (suc k))))))) le = absurd (omega (arith, le))

two_digits : (b : ℕ) (rest : List ℕ) → 48 ≤ b → b ≤ 54 → IsInputLine (49 ∷ b ∷ 32 ∷ rest) (10 + (b - 48)) rest
two_digits b rest low high = record {
  least = omega arith;
  greatest = omega (arith, low, high);
  spelled =
      let glyph : 48 + (b - 48) ≡ b = omega (arith, low) in
      ap (λ (c : ℕ). 49 ∷ c ∷ 32 ∷ rest) (sym glyph) ∙ ap (λ (ds : List ℕ). ds ++ 32 ∷ rest) (sym (ten_and (b - 48) (omega (arith, low, high))));
}

-- the parts of what is read
-- a number and what follows it
abbrev found_as : ℕ → List ℕ → Option (ℕ × List ℕ)
found_as n s = Some (n, s)

abbrev number_of : Option (ℕ × List ℕ) → ℕ
number_of None = 0
number_of (Some found) = found.0

abbrev rest_of : Option (ℕ × List ℕ) → List ℕ
rest_of None = []
rest_of (Some found) = found.1

some_number : (m n : ℕ) (r s : List ℕ) → found_as m r ≡ found_as n s → m ≡ n
some_number m n r s e = ap number_of e

some_rest : (m n : ℕ) (r s : List ℕ) → found_as m r ≡ found_as n s → r ≡ s
some_rest m n r s e = ap rest_of e

same_says : (line : List ℕ) (m n : ℕ) (r s : List ℕ) → found_as m r ≡ found_as n s → IsInputLine line m r → IsInputLine line n s
same_says line m n r s e says = subst (λ (t : List ℕ). IsInputLine line n t) (some_rest m n r s e) (subst (λ (k : ℕ). IsInputLine line k r) (some_number m n r s e) says)

is_not_none : (n : ℕ) (s : List ℕ) → found_as n s ≡ None → ⊥
is_not_none n s e = let bad : true ≡ false = ap is_some e in cc

-- a line of two digits
by_second : (t : Bool) (a b c n : ℕ) (rest s : List ℕ) → t ≡ (a == 49 && (nat_le 48 b && (nat_le b 54 && c == 32)))
    → (if t then found_as (10 + (b - 48)) rest else None) ≡ found_as n s → IsInputLine (a ∷ b ∷ c ∷ rest) n s
by_second true a b c n rest s h e =
    let first : a ≡ 49 = grind (arith, nat_tests) in
    let low : 48 ≤ b = grind (arith, nat_tests) in
    let high : b ≤ 54 = grind (arith, nat_tests) in
    let space : c ≡ 32 = grind (arith, nat_tests) in
    let spelled = subst (λ (x : ℕ). IsInputLine (x ∷ b ∷ 32 ∷ rest) (10 + (b - 48)) rest) (sym first) (two_digits b rest low high) in
    same_says (a ∷ b ∷ c ∷ rest) _ n rest s e (subst (λ (x : ℕ). IsInputLine (a ∷ b ∷ x ∷ rest) (10 + (b - 48)) rest) (sym space) spelled)
by_second false a b c n rest s h e = absurd (is_not_none n s (sym e))

second_says : (a b n : ℕ) (rest s : List ℕ) → second_digit a b rest ≡ found_as n s → IsInputLine (a ∷ b ∷ rest) n s
second_says a b n [] s e = absurd (is_not_none n s (sym e))
second_says a b n (c ∷ rest) s e = by_second _ a b c n rest s refl e

-- a line of one digit, or else of two
by_first : (t : Bool) (a b n : ℕ) (rest s : List ℕ) → t ≡ (nat_le 49 a && (nat_le a 57 && b == 32))
    → (if t then found_as (a - 48) rest else second_digit a b rest) ≡ found_as n s → IsInputLine (a ∷ b ∷ rest) n s
by_first true a b n rest s h e =
    let says = one_digit a rest (digit_low a b (sym h)) (digit_high a b (sym h)) in
    same_says (a ∷ b ∷ rest) _ n rest s e (subst (λ (x : ℕ). IsInputLine (a ∷ x ∷ rest) (a - 48) rest) (sym (digit_space a b (sym h))) says)
by_first false a b n rest s h e = second_says a b n rest s e

pub read_is_said : (line : List ℕ) (n : ℕ) (s : List ℕ) → line_number_at line ≡ found_as n s → IsInputLine line n s
unfolding line_number_at
read_is_said [] n s e = absurd (is_not_none n s (sym e))
read_is_said (a ∷ []) n s e = absurd (is_not_none n s (sym e))
read_is_said (a ∷ b ∷ rest) n s e = by_first _ a b n rest s refl e

pub none_is_said : (line : List ℕ) → line_number_at line ≡ None → SaysNothing line
none_is_said line h n s says = is_not_none n s (sym (said_is_read line n s says) ∙ h)
