-- Spaces and comments.
use Rattle.std.proofs.Common.{◌≡◌, ◌≢◌, ℕ, zero, suc, ◌+◌, ◌-◌, ◌<◌, ◌≤◌, Bool, true, false, ◌==◌, ◌&&◌, lit<, [], ◌∷◌, length, drop, Option, Some, None, refl, ap, sym, ◌∙◌, subst, arith, length-drop, ◌⊎◌, inl, inr}
use Rattle.std.proofs.lemmas.Bool.Decides.{nat_tests}
use Rattle.sql_lexer.specs.Lex.{Text, plus, next_byte, comment, piece, gap_from, gap}
use Rattle.sql_lexer.specs.Spans.{EndsOn}

pub either : (b : Bool) → (b ≡ true) ⊎ (b ≡ false)
either true = inl refl
either false = inr refl

pub one_after : (c b : ℕ) (z : Text) (n m : ℕ) → EndsOn c z m → n ≡ 1 + m → EndsOn c (b ∷ z) n
one_after c b z n m (some, le, on) e =
    let p : n - 1 ≡ suc (m - 1) = omega arith in
    (omega arith, omega arith, rw p on)

second_is : (c b : ℕ) (z : Text) → next_byte z ≡ c → 0 < c → EndsOn c (b ∷ z) 2
second_is c b [] e some = absurd (omega (arith, e))
second_is c b (d ∷ z) e some = (omega arith, omega arith, e)

pub plus_some : (k n : ℕ) (o : Option ℕ) → plus k o ≡ Some n → (m : ℕ) × (o ≡ Some m) × (n ≡ k + m)
plus_some k n None e = absurd cc
plus_some k n (Some m) e = let h : n ≡ k + m = cc in (m, refl, h)

pub both_hold : (b c x y : ℕ) → (b == x && c == y) ≡ true → c ≡ y
both_hold b c x y e = grind (arith, nat_tests)

pub comment_ends : (z : Text) (n : ℕ) → comment z ≡ Some n → EndsOn 47 z n
unfolding comment
comment_ends [] n e = absurd cc
comment_ends (b ∷ z) n e = elim (either (b == 42 && next_byte z == 47)) [
  | inl h ↦
      let two : 2 ≡ n = let e' : Some 2 ≡ Some n = rw h at e in cc in
      subst (EndsOn 47 (b ∷ z)) two (second_is 47 b z (both_hold b (next_byte z) 42 47 h) (lit< tt))
  | inr h ↦
      let e' : plus 1 (comment z) ≡ Some n = rw h at e in
      let (m, is, long) = plus_some 1 n (comment z) e' in
      one_after 47 b z n m (comment_ends z m is) long
]

stops : (n : ℕ) (z : Text) → piece z ≡ 0 → gap_from n z ≡ z
unfolding gap_from
stops zero z e = refl
stops (suc n) z e = rw e refl

empty : (z : Text) → length z ≡ 0 → piece z ≡ 0
unfolding piece
empty [] e = refl
empty (b ∷ z) e = absurd (omega (arith, e))

goes : (n : ℕ) (z : Text) → piece z ≢ 0 → gap_from (suc n) z ≡ gap_from n (drop (piece z) z)
unfolding gap_from
goes n z ne = let e : (piece z == 0) ≡ false = grind (arith, nat_tests) in rw e refl

enough : (n m : ℕ) (z : Text) → length z ≤ n → length z ≤ m → gap_from n z ≡ gap_from m z
enough zero m z a b = let e = empty z (omega arith) in stops zero z e ∙ sym (stops m z e)
enough (suc n) zero z a b = let e = empty z (omega arith) in stops (suc n) z e ∙ sym (stops zero z e)
enough (suc n) (suc m) z a b = elim (either (piece z == 0)) [
  | inl e ↦ let e' : piece z ≡ 0 = grind (arith, nat_tests) in stops (suc n) z e' ∙ sym (stops (suc m) z e')
  | inr e ↦
      let ne : piece z ≢ 0 = grind (arith, nat_tests) in
      let len = length-drop (piece z) z in
      goes n z ne ∙ enough n m (drop (piece z) z) (omega arith) (omega arith) ∙ sym (goes m z ne)
]

pub gap_stops : (z : Text) → piece z ≡ 0 → gap z ≡ z
gap_stops z e = stops (length z) z e

pub gap_goes : (z : Text) → piece z ≢ 0 → gap (drop (piece z) z) ≡ gap z
gap_goes z ne =
    let len = length-drop (piece z) z in
    elim (either (length z == 0)) [
      | inl e ↦ absurd (ne (empty z (grind (arith, nat_tests))))
      | inr e ↦
          let some : length z ≢ 0 = grind (arith, nat_tests) in
          let n : length z ≡ suc (length z - 1) = omega arith in
          enough (length (drop (piece z) z)) (length z - 1) (drop (piece z) z) (omega arith) (omega arith) ∙ sym (goes (length z - 1) z ne)
          ∙ ap (λ (k : ℕ). gap_from k z) (sym n)
    ]

no_turns : (z : Text) → gap_from zero z ≡ z
unfolding gap_from
no_turns z = refl

done : (n : ℕ) (z : Text) → length z ≤ n → piece (gap_from n z) ≡ 0
done zero z le = ap piece (no_turns z) ∙ empty z (omega arith)
done (suc n) z le = elim (either (piece z == 0)) [
  | inl e ↦ let e' : piece z ≡ 0 = grind (arith, nat_tests) in ap piece (stops (suc n) z e') ∙ e'
  | inr e ↦
      let ne : piece z ≢ 0 = grind (arith, nat_tests) in
      let len = length-drop (piece z) z in
      ap piece (goes n z ne) ∙ done n (drop (piece z) z) (omega arith)
]

-- no space or comment is left
pub gap_done : (z : Text) → piece (gap z) ≡ 0
gap_done z = done (length z) z (omega arith)
