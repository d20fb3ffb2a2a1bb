-- Where a text may be cut.
use Rattle.std.proofs.Common.{◌≡◌, ℕ, ◌+◌, ◌-◌, ◌<◌, ◌≤◌, true, false, List, length, slice_index, arith, subst, sym, inl, inr, lit<, Some, drop, slice_range, length-drop}
use Rattle.std.specs.Str.{IsUtf8, IsCharBoundary}
use Rattle.std.proofs.lemmas.Str.{IsCharBoundary-start, IsCharBoundary-after_ascii}
use Rattle.std.proofs.lemmas.List.{get_or-drop, take_all}
use Rattle.std.proofs.lemmas.Bool.Decides.{nat_tests}
use Rattle.sql_lexer.specs.Lex.{comment}
use Rattle.sql_lexer.proofs.Gaps.{comment_ends}
use Rattle.sql_lexer.specs.Bytes.{is_in, is_space}
use Rattle.sql_lexer.specs.declared.class.Class.TheVariants as class
use Rattle.sql_lexer.specs.Spans.{Ends, EndsOn, EndsMark}

pub cut_after : (z : List ℕ) (n : ℕ) → 0 < n → n ≤ length z → slice_index z (n - 1) < 128 → IsUtf8 z → IsCharBoundary z n
cut_after z n some le low utf8 =
    let e : (n - 1) + 1 ≡ n = omega arith in
    subst (λ k. IsCharBoundary z k) e (IsCharBoundary-after_ascii z (n - 1) utf8 (omega arith) low)

pub cut_before : (z : List ℕ) (n : ℕ) → n ≤ length z → (n < length z → slice_index z n < 128) → IsCharBoundary z n
cut_before z n le low = (le, λ lt high. absurd (omega (arith, low lt)))

pub ends_after : (z : List ℕ) (n : ℕ) → 0 < n → n ≤ length z → slice_index z (n - 1) < 128 → Ends z n
ends_after z n some le low = (some, le, cut_after z n some le low)

not_in_word : (b : ℕ) → is_in class.Word b ≡ false → b < 128
not_in_word b e = grind (arith, nat_tests)

pub ends_word : (z : List ℕ) (n : ℕ) → 0 < n → n ≤ length z → (n < length z → is_in class.Word (slice_index z n) ≡ false) → Ends z n
ends_word z n some le stops = (some, le, λ _. cut_before z n le (λ lt. not_in_word (slice_index z n) (stops lt)))

pub cut_start : (z : List ℕ) → IsUtf8 z → IsCharBoundary z 0
cut_start z utf8 = IsCharBoundary-start z utf8

-- after what stands in front of it
pub is_ended_after : (z : List ℕ) (k b n : ℕ) → b < 128 → EndsOn b (slice_range z k (length z)) n → Ends z (n + k)
is_ended_after z k b n low ends =
    let len = length-drop k z in
    let same : slice_range z k (length z) ≡ drop k z = take_all (length z - k) (drop k z) (omega (arith, length-drop k z)) in
    let (some, in_rest, on) = subst (λ (y : List ℕ). EndsOn b y n) same ends in
    let e : slice_index z (k + (n - 1)) ≡ b = rw get_or-drop at on in
    let p : k + (n - 1) ≡ (n + k) - 1 = omega arith in
    let e' : slice_index z ((n + k) - 1) ≡ b = subst (λ (i : ℕ). slice_index z i ≡ b) p e in
    ends_after z (n + k) (omega arith) (omega arith) (omega arith)

space_low : (b : ℕ) → is_space b ≡ true → b < 128
space_low b e = grind (arith, nat_tests)

pub space_cut : (z : List ℕ) → 0 < length z → is_space (slice_index z 0) ≡ true → IsUtf8 z → IsCharBoundary z 1
space_cut z some e utf8 = cut_after z 1 (lit< tt) (omega arith) (space_low (slice_index z 0) e) utf8

pub comment_cut : (z : List ℕ) (n : ℕ) → comment (slice_range z 2 (length z)) ≡ Some n → IsUtf8 z → IsCharBoundary z (n + 2)
comment_cut z n is utf8 = (is_ended_after z 2 47 n (lit< tt) (comment_ends (slice_range z 2 (length z)) n is)).2 utf8

pub ends_mark : (z : List ℕ) (n : ℕ) → 2 ≤ length z → EndsMark (slice_index z 0) (slice_index z 1) n → Ends z n
ends_mark z n le (inl (one, low)) = subst (Ends z) (sym one) (ends_after z 1 (lit< tt) (omega arith) low)
ends_mark z n le (inr (two, low)) = subst (Ends z) (sym two) (ends_after z 2 (lit< tt) le low)
