-- From the first of some tokens to the last, a text is cut into the same tokens.
use Rattle.std.proofs.Common.{◌≡◌, ℕ, zero, suc, ◌+◌, ◌-◌, ◌≤◌, Bool, false, ◌&&◌, ◌==◌, List, [], ◌∷◌, ◌++◌, Some, None, refl, ap, sym, subst, ◌∙◌, length, take, drop, slice_range, arith}
use Rattle.std.proofs.lemmas.Bool.Decides.{nat_tests}
use Rattle.std.proofs.Math.Seq.{take-append-add, drop-append_seam}
use Rattle.sql_lexer.specs.declared.token.Kind.{Kind}
use Rattle.sql_lexer.specs.Cut as c
use Rattle.sql_lexer.specs.Cut.{IsGap, Spells, Cuts, end_after, earlier}
use Rattle.sql_lexer.specs.Lex.{Text, Lexed, next_byte, is_minus, pair, single}

short_word : (b next : ℕ) (z : Text) → (b == 88 && next_byte (z ++ next ∷ []) == 39) ≡ false → (b == 88 && next_byte (z ++ 0 ∷ []) == 39) ≡ false
short_word b next [] e = grind (arith, nat_tests)
short_word b next (d ∷ z) e = e

no_pair : (b : ℕ) (kind : Kind) → single b ≡ Some kind → pair b 0 ≡ None
no_pair b kind e = grind (arith, nat_tests)

-- a token may stand at the end
at_end : {m : Bool} {kind : Kind} {s : Text} {next : ℕ} → Spells m kind s next → Spells m kind s 0
at_end (c.word {b = b} {next = next} {z = z} h e q x) = c.word h e refl (short_word b next z x)
at_end (c.number h e q ne w) = c.number h e refl (λ p. absurd cc) w
at_end (c.text z ne) = c.text z (λ p. absurd cc)
at_end (c.name z ne) = c.name z (λ p. absurd cc)
at_end (c.blob z e even) = c.blob z e even
at_end (c.two e) = c.two e
at_end (c.one {b = b} {kind = kind} e none shut line) = c.one e (no_pair b kind e) (grind (arith, nat_tests)) (grind (arith, nat_tests))

-- a token may stand before a beginning of what stands after it
spells_before : {m : Bool} {kind : Kind} {s : Text} (n : ℕ) (rest : Text) → Spells m kind s (next_byte rest) → Spells m kind s (next_byte (take n rest))
spells_before zero rest sp = at_end sp
spells_before (suc n) [] sp = sp
spells_before (suc n) (b ∷ rest) sp = sp

-- tokens at the front, of a text that begins so much earlier
record Front (k base : ℕ) (m : Bool) (z : Text) (ts : List Lexed) : Type 0 where
  grows : base + k ≤ end_after (base + k) ts
  ends : end_after base (earlier k ts) ≡ end_after (base + k) ts - k
  cuts : Cuts base m (take (end_after (base + k) ts - (base + k)) z) (earlier k ts)

front_cuts : (ts : List Lexed) {at : ℕ} {m : Bool} {z : Text} {all : List Lexed} (k base : ℕ) (us : List Lexed) → Cuts at m z all → at ≡ base + k → all ≡ ts ++ us → Front k base m z ts
front_cuts [] {m = m} {z = z} k base us d e same =
    let none : base + k - (base + k) ≡ 0 = omega arith in
    record { grows = omega arith; ends = omega arith; cuts = subst (λ (n : ℕ). Cuts base m (take n z) []) (sym none) (c.done c.nothing) }
front_cuts (t ∷ ts) k base us (c.done d) e same = absurd cc
front_cuts (t ∷ ts) k base us (c.ends_in_comment z d l) e same = absurd cc
front_cuts (t ∷ ts) k base us (c.cut {at = at} {m = m} {g = g} {s = s} {rest = rest} {kind = kind} {ts = others} d sp more) e same =
    let first : t ≡ record { kind = kind; text = s; start = at + length g } = cc in
    let left : others ≡ ts ++ us = cc in
    let place : at + length g + length s ≡ (base + length g + length s) + k = omega (arith, e) in
    let inner = front_cuts ts k (base + length g + length s) us more place left in
    subst (Front k base m (g ++ (s ++ rest))) (ap (λ (u : Lexed). u ∷ ts) (sym first)) (one inner)
  where
    one : Front k (base + length g + length s) (is_minus kind) rest ts → Front k base m (g ++ (s ++ rest)) (record { kind = kind; text = s; start = at + length g } ∷ ts)
    one inner =
        let end : ℕ = end_after (at + length g + length s) ts in
        let place : at + length g + length s ≡ (base + length g + length s) + k = omega (arith, e) in
        let same_end : end ≡ end_after ((base + length g + length s) + k) ts = ap (λ (n : ℕ). end_after n ts) place in
        let n : ℕ = end_after ((base + length g + length s) + k) ts - ((base + length g + length s) + k) in
        let some = inner.grows in
        let count : end - (base + k) ≡ length g + (length s + n) = omega (arith, e) in
        let text : take (end - (base + k)) (g ++ (s ++ rest)) ≡ g ++ (s ++ take n rest) =
        ap (λ (j : ℕ). take j (g ++ (s ++ rest))) count ∙ take-append-add g (s ++ rest) (length s + n) ∙ ap (λ (y : Text). g ++ y) (take-append-add s rest n) in
        let start : at + length g - k ≡ base + length g = omega (arith, e) in
        record {
          grows = omega (arith, e);
          ends = ap (λ (j : ℕ). end_after (j + length s) (earlier k ts)) start ∙ inner.ends ∙ ap (λ (j : ℕ). j - k) (sym same_end);
          cuts = rw (text, start) (c.cut d (spells_before n rest sp) inner.cuts);
        }

-- the tokens of a part, and where the last of them ends in it
record Part (z : Text) (t : Lexed) (ts : List Lexed) : Type 0 where
  cuts : Cuts 0 false (slice_range z t.start (end_after t.start (t ∷ ts))) (earlier t.start (t ∷ ts))
  ends : end_after 0 (earlier t.start (t ∷ ts)) ≡ end_after t.start (t ∷ ts) - t.start

-- the first token and those after it, from where it begins
from_first : {at : ℕ} {z : Text} {all : List Lexed} (t : Lexed) (ts us : List Lexed) → Cuts at false z all → at ≡ 0 → all ≡ t ∷ (ts ++ us) → Part z t ts
from_first t ts us (c.done d) e same = absurd cc
from_first t ts us (c.ends_in_comment z d l) e same = absurd cc
from_first t ts us (c.cut {at = at} {g = g} {s = s} {rest = rest} {kind = kind} {ts = others} d sp more) e same =
    let n : ℕ = length g in
    let t_here : t ≡ record { kind = kind; text = s; start = at + n } = cc in
    let first : t ≡ record { kind = kind; text = s; start = n } = t_here ∙ ap (λ (k : ℕ). record { kind = kind; text = s; start = k }) (omega (arith, e)) in
    let left : others ≡ ts ++ us = cc in
    let behind : at + n + length s ≡ n + 0 + length s = omega (arith, e) in
    let begun = c.cut {at = n} {g = []} c.nothing sp (subst (λ (k : ℕ). Cuts k (is_minus kind) rest others) behind more) in
    let alone : Cuts n false (s ++ rest) (record { kind = kind; text = s; start = n } ∷ others) =
    subst (λ (k : ℕ). Cuts n false (s ++ rest) (record { kind = kind; text = s; start = k } ∷ others)) (omega arith) begun in
    let f = front_cuts (record { kind = kind; text = s; start = n } ∷ ts) n 0 us alone (omega arith) (ap (λ (x : List Lexed). record { kind = kind; text = s; start = n } ∷ x) left) in
    let text : drop n (g ++ (s ++ rest)) ≡ s ++ rest = drop-append_seam g (s ++ rest) in
    let none : 0 + n ≡ n = omega arith in
    let cuts : Cuts 0 false (take (end_after (n + length s) ts - n) (s ++ rest)) (earlier n (record { kind = kind; text = s; start = n } ∷ ts)) =
    subst (λ (k : ℕ). Cuts 0 false (take (end_after (n + length s) ts - k) (s ++ rest)) (earlier n (record { kind = kind; text = s; start = n } ∷ ts))) none f.cuts in
    let here : Cuts 0 false (slice_range (g ++ (s ++ rest)) n (end_after n (record { kind = kind; text = s; start = n } ∷ ts))) (earlier n (record { kind = kind; text = s; start = n } ∷ ts)) = rw text cuts in
    let ends : end_after 0 (earlier n (record { kind = kind; text = s; start = n } ∷ ts)) ≡ end_after n (record { kind = kind; text = s; start = n } ∷ ts) - n = f.ends in
    let part : Part (g ++ (s ++ rest)) (record { kind = kind; text = s; start = n }) ts = record { cuts = here; ends = ends } in
    subst (λ (t : Lexed). Part (g ++ (s ++ rest)) t ts) (sym first) part

pub part_is_cut : (z : Text) (t : Lexed) (ts us : List Lexed) → Cuts 0 false z (t ∷ (ts ++ us)) → Cuts 0 false (slice_range z t.start (end_after t.start (t ∷ ts))) (earlier t.start (t ∷ ts))
part_is_cut z t ts us d = (from_first t ts us d refl refl).cuts

pub part_ends : (z : Text) (t : Lexed) (ts us : List Lexed) → Cuts 0 false z (t ∷ (ts ++ us)) → end_after 0 (earlier t.start (t ∷ ts)) ≡ end_after t.start (t ∷ ts) - t.start
part_ends z t ts us d = (from_first t ts us d refl refl).ends
