-- Where a quoted token ends, and the value of digits.
use Rattle.std.proofs.Common.{◌≡◌, ℕ, ◌+◌, ◌-◌, ◌*◌, ◌^◌, ◌%◌, ◌<◌, ◌≤◌, true, ◌==◌, ◌&&◌, lit<, [], ◌∷◌, length, drop, get_or, slice_index, Some, None, refl, ap, subst, arith, length-drop, inl, inr}
use Rattle.std.specs.List.{prefix_len}
use Rattle.std.proofs.lemmas.List.{get_or-drop, drop_more}
use Rattle.std.proofs.lemmas.Bool.Decides.{nat_tests}
use Rattle.sql_lexer.specs.Bytes.{is_in}
use Rattle.sql_lexer.specs.declared.class.Class.TheVariants as class
use Rattle.sql_lexer.specs.Lex.{Text, plus, next_byte, closing, second, blob, number_from}
use Rattle.sql_lexer.specs.Spans.{EndsOn}
use Rattle.sql_lexer.proofs.Gaps.{either, one_after, plus_some}

front_is : (c : ℕ) (z : Text) → next_byte z ≡ c → 0 < c → (0 < length z) × (slice_index z 0 ≡ c)
front_is c [] e some = absurd (omega (arith, e))
front_is c (b ∷ z) e some = (omega arith, e)

behind : (c k : ℕ) (z : Text) → next_byte (drop k z) ≡ c → 0 < c → EndsOn c z (k + 1)
behind c k z e some =
    let (long, is) = front_is c (drop k z) e some in
    let len = length-drop k z in
    let p : k + 0 ≡ (k + 1) - 1 = omega arith in
    let there : slice_index z (k + 0) ≡ c = rw get_or-drop at is in
    (omega arith, omega arith, subst (λ (i : ℕ). slice_index z i ≡ c) p there)

quote_after : (n : ℕ) (z : Text) → (n % 2 == 0 && next_byte (drop n z) == 39) ≡ true → next_byte (drop n z) ≡ 39
quote_after n z e = let k : ℕ = next_byte (drop n z) in grind (arith, nat_tests)

pub blob_ends : (z : Text) (n : ℕ) → blob z ≡ Some n → EndsOn 39 z n
unfolding blob
blob_ends z n e =
    let k : ℕ = prefix_len (is_in class.Hex) z in
    elim (either (k % 2 == 0 && next_byte (drop k z) == 39)) [
      | inl h ↦
          let long : k + 1 ≡ n = let e' : Some (k + 1) ≡ Some n = rw h at e in cc in
          subst (EndsOn 39 z) long (behind 39 k z (quote_after k z h) (lit< tt))
      | inr h ↦ let e' : None ≡ Some n = rw h at e in absurd cc
    ]

at_front : (q b : ℕ) (z : Text) (n : ℕ) → (b == q) ≡ true → 1 ≡ n → EndsOn q (b ∷ z) n
at_front q b z n h e = let h' : b ≡ q = grind (arith, nat_tests) in subst (EndsOn q (b ∷ z)) e (lit< tt, omega arith, h')

mutual
  unfolding closing

  pub closing_ends : (q : ℕ) (z : Text) (n : ℕ) → closing q z ≡ Some n → EndsOn q z n
  closing_ends q [] n e = absurd cc
  closing_ends q (b ∷ z) n e = elim (either (b == q)) [
    | inl h ↦ let e' : second q z ≡ Some n = rw h at e in second_ends q b z n h e'
    | inr h ↦
        let e' : plus 1 (closing q z) ≡ Some n = rw h at e in
        let (m, is, long) = plus_some 1 n (closing q z) e' in
        one_after q b z n m (closing_ends q z m is) long
  ]

  second_ends : (q b : ℕ) (z : Text) (n : ℕ) → (b == q) ≡ true → second q z ≡ Some n → EndsOn q (b ∷ z) n
  second_ends q b [] n h e = at_front q b [] n h cc
  second_ends q b (c ∷ z) n h e = elim (either (c == q)) [
    | inl h' ↦
        let e' : plus 2 (closing q z) ≡ Some n = rw h' at e in
        let (m, is, long) = plus_some 2 n (closing q z) e' in
        one_after q b (c ∷ z) n (1 + m) (one_after q c z (1 + m) m (closing_ends q z m is) refl) (omega arith)
    | inr h' ↦ let e' : Some 1 ≡ Some n = rw h' at e in at_front q b (c ∷ z) n h cc
  ]

number_least : (n : ℕ) (z : Text) → n ≤ number_from n z
number_least n [] = omega arith
number_least n (b ∷ z) = omega (arith, number_least (n * 10 + (b - 48)) z)

pub past_64 : (n i total : ℕ) (z : Text) → i < length z → 2 ^ 64 ≤ n * 10 + (get_or z i 0 - 48) → number_from n (drop i z) ≡ total → 2 ^ 64 ≤ total
past_64 n i total z lt past e =
    let step : number_from n (drop i z) ≡ number_from (n * 10 + (get_or z i 0 - 48)) (drop (i + 1) z) = ap (number_from n) (drop_more z i 0 lt) in
    omega (arith, number_least (n * 10 + (get_or z i 0 - 48)) (drop (i + 1) z))
