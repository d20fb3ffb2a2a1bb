-- What is skipped is spaces and comments.
use Rattle.std.proofs.Common.{◌≡◌, ℕ, zero, suc, ◌+◌, ◌≤◌, Bool, true, false, not, cond, ◌&&◌, ◌==◌, [], ◌∷◌, ◌++◌, Option, Some, None, refl, ap, sym, subst, ◌∙◌, length, take, drop, arith, append_assoc, length-append, inl, inr}
use Rattle.std.specs.List.{prefix_len}
use Rattle.std.proofs.lemmas.Bool.Decides.{nat_tests}
use Rattle.std.proofs.lemmas.List.{append-nil}
use Rattle.sql_lexer.specs.Bytes.{is_space}
use Rattle.sql_lexer.specs.Cut as c
use Rattle.sql_lexer.specs.Cut.{Every, not_line, IsComment, IsGap}
use Rattle.sql_lexer.specs.Lex.{Text, next_byte, comment, piece, gap, plus}
use Rattle.sql_lexer.proofs.Gaps.{either, both_hold, gap_stops, plus_some}
use Rattle.sql_lexer.proofs.Whole.{gap_none, gap_last, gap_over, same_front, piece_none}

pub run_every : (p : ℕ → Bool) (z : Text) → Every p (take (prefix_len p z) z)
run_every p [] = tt
run_every p (b ∷ z) = by_test (p b) refl (run_every p z)
  where
    by_test : (t : Bool) → p b ≡ t → Every p (take (prefix_len p z) z) → Every p (take (cond t (1 + prefix_len p z) 0) (b ∷ z))
    by_test true e ih = let one : 1 + prefix_len p z ≡ suc (prefix_len p z) = omega arith in rw one (e, ih)
    by_test false e ih = tt

pub run_stops : (p : ℕ → Bool) (z : Text) → p 0 ≡ false → p (next_byte (drop (prefix_len p z) z)) ≡ false
run_stops p [] n = n
run_stops p (b ∷ z) n = by_test (p b) refl (run_stops p z n)
  where
    by_test : (t : Bool) → p b ≡ t → p (next_byte (drop (prefix_len p z) z)) ≡ false → p (next_byte (drop (cond t (1 + prefix_len p z) 0) (b ∷ z))) ≡ false
    by_test true e ih = let one : 1 + prefix_len p z ≡ suc (prefix_len p z) = omega arith in rw one ih
    by_test false e ih = e

-- where a line ends
data Lined (y : Text) : Type 0 where
  last : Every not_line y → Lined y
  broken : (z w : Text) → Every not_line z → y ≡ z ++ 10 ∷ w → Lined y

lined : (y : Text) → Lined y
lined [] = last tt
lined (b ∷ y) = by_test (b == 10) refl (lined y)
  where
    by_test : (t : Bool) → (b == 10) ≡ t → Lined y → Lined (b ∷ y)
    by_test true e ih = let b10 : b ≡ 10 = grind (arith, nat_tests) in broken [] y tt (ap (λ (i : ℕ). i ∷ y) b10)
    by_test false e (last all) = last (ap not e, all)
    by_test false e (broken z w all is) = broken (b ∷ z) w (ap not e, all) (ap (λ (x : Text). b ∷ x) is)

-- a comment with what stands after it
record Commented (y : Text) : Type 0 where
  body : Text
  rest : Text
  closed : IsComment body
  whole : y ≡ body ++ rest

comment_found : (b : ℕ) (y : Text) → (b == 42 && next_byte y == 47) ≡ true → Commented (b ∷ y)
comment_found b [] e = absurd (omega (arith, both_hold b 0 42 47 e))
comment_found b (d ∷ w) e =
    let first : b ≡ 42 = grind (arith, nat_tests) in
    let next : d ≡ 47 = grind (arith, nat_tests) in
    record { body = 42 ∷ 47 ∷ []; rest = w; closed = c.closes; whole = λ i. first i ∷ next i ∷ w }

comment_parts : (y : Text) (n : ℕ) → comment y ≡ Some n → Commented y
unfolding comment
comment_parts [] n e = absurd cc
comment_parts (b ∷ y) n e = elim (either (b == 42 && next_byte y == 47)) [
  | inl h ↦ comment_found b y h
  | inr h ↦
      let e' : plus 1 (comment y) ≡ Some n = rw h at e in
      let (m, is, long) = plus_some 1 n (comment y) e' in
      let ih = comment_parts y m is in
      let front : next_byte y ≡ next_byte ih.body = ap next_byte ih.whole ∙ same_front ih.body ih.rest ih.closed in
      record {
        body = b ∷ ih.body;
        rest = ih.rest;
        closed = c.goes (ap (λ (i : ℕ). b == 42 && i == 47) (sym front) ∙ h) ih.closed;
        whole = ap (λ (x : Text). b ∷ x) ih.whole;
      }
]

gap_append : {f : Text} → IsGap f → {g : Text} → IsGap g → IsGap (f ++ g)
gap_append c.nothing d = d
gap_append (c.space h f) d = c.space h (gap_append f d)
gap_append (c.line {g = g} z e f) {g = k} d =
    subst (λ (x : Text). IsGap (45 ∷ 45 ∷ x)) (sym (append_assoc z (10 ∷ g) k)) (c.line z e (gap_append f d))
gap_append (c.block {g = g} z e f) {g = k} d = subst (λ (x : Text). IsGap (47 ∷ 42 ∷ x)) (sym (append_assoc z g k)) (c.block z e (gap_append f d))

-- a text with what is skipped of it
pub data Parted (z : Text) : Type 0 where
  parted : (g : Text) → IsGap g → z ≡ g ++ gap z → Parted z
  in_comment : (g y : Text) → IsGap g → Every not_line y → z ≡ g ++ 45 ∷ 45 ∷ y → gap z ≡ [] → Parted z

-- more that is skipped in front
behind : (z w f : Text) → IsGap f → z ≡ f ++ w → Parted w → Parted z
behind z w f d is (parted g e part) =
    let same : gap z ≡ gap w = ap gap is ∙ gap_over d w in
    parted (f ++ g) (gap_append d e) (is ∙ ap (λ (x : Text). f ++ x) (part ∙ ap (λ (x : Text). g ++ x) (sym same)) ∙ sym (append_assoc f g (gap z)))
behind z w f d is (in_comment g y e all part none) =
    in_comment (f ++ g) y (gap_append d e) all (is ∙ ap (λ (x : Text). f ++ x) part ∙ sym (append_assoc f g (45 ∷ 45 ∷ y))) (ap gap is ∙ gap_over d w ∙ none)

by_line : (n : ℕ) (y : Text) → length y ≤ n → ((w : Text) → length w ≤ n → Parted w) → Lined y → Parted (45 ∷ 45 ∷ y)
by_line n y le go (last all) = in_comment [] y c.nothing all refl (gap_last y all)
by_line n y le go (broken z w all is) =
    let long = length-append z (10 ∷ w) in
    let same : length y ≡ length (z ++ 10 ∷ w) = ap length is in
    let whole : 45 ∷ 45 ∷ y ≡ (45 ∷ 45 ∷ z ++ 10 ∷ []) ++ w = ap (λ (x : Text). 45 ∷ 45 ∷ x) (is ∙ sym (append_assoc z (10 ∷ []) w)) in
    behind (45 ∷ 45 ∷ y) w (45 ∷ 45 ∷ z ++ 10 ∷ []) (c.line z all c.nothing) whole (go w (omega arith))

line_part : (n b : ℕ) (z : Text) → length z ≤ n → (b == 45 && next_byte z == 45) ≡ true → ((w : Text) → length w ≤ n → Parted w) → Parted (b ∷ z)
line_part n b [] le e go = absurd (omega (arith, both_hold b 0 45 45 e))
line_part n b (d ∷ y) le e go =
    let first : 45 ≡ b = grind (arith, nat_tests) in
    let next : 45 ≡ d = grind (arith, nat_tests) in
    let is : 45 ∷ 45 ∷ y ≡ b ∷ d ∷ y = λ i. first i ∷ next i ∷ y in
    subst Parted is (by_line n y (omega arith) go (lined y))

open_piece : (y : Text) → comment y ≡ None → piece (47 ∷ 42 ∷ y) ≡ 0
unfolding piece
open_piece y e = rw e refl

by_comment : (n : ℕ) (y : Text) → length y ≤ n → ((w : Text) → length w ≤ n → Parted w) → (o : Option ℕ) → comment y ≡ o → Parted (47 ∷ 42 ∷ y)
by_comment n y le go None e = parted [] c.nothing (sym (gap_stops (47 ∷ 42 ∷ y) (open_piece y e)))
by_comment n y le go (Some k) e =
    let found = comment_parts y k e in
    let long = length-append found.body found.rest in
    let same : length y ≡ length (found.body ++ found.rest) = ap length found.whole in
    let whole : 47 ∷ 42 ∷ y ≡ (47 ∷ 42 ∷ found.body ++ []) ++ found.rest =
    ap (λ (x : Text). 47 ∷ 42 ∷ x) (found.whole ∙ ap (λ (x : Text). x ++ found.rest) (sym (append-nil found.body))) in
    behind (47 ∷ 42 ∷ y) found.rest (47 ∷ 42 ∷ found.body ++ []) (c.block found.body found.closed c.nothing) whole (go found.rest (omega arith))

block_part : (n b : ℕ) (z : Text) → length z ≤ n → (b == 47 && next_byte z == 42) ≡ true → ((w : Text) → length w ≤ n → Parted w) → Parted (b ∷ z)
block_part n b [] le e go = absurd (omega (arith, both_hold b 0 47 42 e))
block_part n b (d ∷ y) le e go =
    let first : 47 ≡ b = grind (arith, nat_tests) in
    let next : 42 ≡ d = grind (arith, nat_tests) in
    let is : 47 ∷ 42 ∷ y ≡ b ∷ d ∷ y = λ i. first i ∷ next i ∷ y in
    subst Parted is (by_comment n y (omega arith) go (comment y) refl)

by_front : (n b : ℕ) (z : Text) → length z ≤ n → ((w : Text) → length w ≤ n → Parted w) → Parted (b ∷ z)
by_front n b z le go = elim (either (is_space b)) [
  | inl s ↦ behind (b ∷ z) z (b ∷ []) (c.space s c.nothing) refl (go z le)
  | inr s ↦ elim (either (b == 45 && next_byte z == 45)) [
    | inl l ↦ line_part n b z le l go
    | inr l ↦ elim (either (b == 47 && next_byte z == 42)) [
      | inl o ↦ block_part n b z le o go
      | inr o ↦ parted [] c.nothing (sym (gap_stops (b ∷ z) (piece_none b z s l o)))
    ]
  ]
]

pub part : (n : ℕ) (z : Text) → length z ≤ n → Parted z
part n [] le = parted [] c.nothing (sym gap_none)
part zero (b ∷ z) le = absurd (omega (arith, le))
part (suc n) (b ∷ z) le = by_front n b z (omega (arith, le)) (λ w h. part n w h)
