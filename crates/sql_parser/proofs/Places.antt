-- Where tokens begin and end.
use Rattle.std.proofs.lemmas.Bool.{ne_eqb}
use Rattle.std.proofs.Common.{◌≡◌, refl, sym, ap, ◌∙◌, Bool, false, eqb, if◌then◌else◌, slice_range, ◌-◌, ℕ, zero, suc, ◌+◌, ◌<◌, ◌≤◌, List, [], ◌∷◌, length, get_or, arith}
use Rattle.std.specs.Str.{IsCharBoundary}
use Rattle.sql_lexer.specs.declared.token.Token.{Token}
use Rattle.sql_lexer.specs.Spans.{Stand, end_of}
use Rattle.sql_lexer.proofs.Standing.{token_is_part}
use Rattle.sql_parser.specs.Spelled.{body_length, start_at, end_at, span, sql_of}

pub starts_within : (z : List ℕ) (ts : List Token) (i : ℕ) (d : Token) → Stand 0 z ts → i < length ts → (get_or ts i d).start ≤ length z
starts_within z ts i d stand lt = let (part, le) = token_is_part 0 z ts i d stand lt in omega (arith, part.1, le)

pub starts_at : (z : List ℕ) (ts : List Token) (i : ℕ) (d : Token) → Stand 0 z ts → i < length ts → IsCharBoundary z (get_or ts i d).start
starts_at z ts i d stand lt = (token_is_part 0 z ts i d stand lt).0.3

pub ends_at : (z : List ℕ) (ts : List Token) (i : ℕ) (d : Token) → Stand 0 z ts → i < length ts → IsCharBoundary z (end_of (get_or ts i d))
ends_at z ts i d stand lt = (token_is_part 0 z ts i d stand lt).0.4

pub ends_within : (z : List ℕ) (ts : List Token) (i : ℕ) (d : Token) → Stand 0 z ts → i < length ts
    → (get_or ts i d).start + length (get_or ts i d).text.now ≤ length z
ends_within z ts i d stand lt = (token_is_part 0 z ts i d stand lt).1

from_first : (at : ℕ) (z : List ℕ) (ts : List Token) (i : ℕ) (d : Token) → Stand at z ts → i < length ts → at ≤ end_of (get_or ts i d)
from_first at z [] i d stand lt = absurd (omega (arith, lt))
from_first at z (t ∷ ts) zero d (part, more) lt = omega (arith, part.0, part.1)
from_first at z (t ∷ ts) (suc i) d (part, more) lt = omega (arith, part.0, part.1, from_first (end_of t) z ts i d more (omega (arith, lt)))

-- the first token begins before any other ends
pub in_order : (z : List ℕ) (ts : List Token) (i : ℕ) (d e : Token) → Stand 0 z ts → i < length ts → (get_or ts 0 e).start ≤ end_of (get_or ts i d)
in_order z [] i d e stand lt = absurd (omega (arith, lt))
in_order z (t ∷ ts) zero d e (part, more) lt = omega (arith, part.1)
in_order z (t ∷ ts) (suc i) d e (part, more) lt = omega (arith, part.1, from_first (end_of t) z ts i d more (omega (arith, lt)))

pub start_is : (ts : List Token) (i : ℕ) (d : Token) → i < length ts → (get_or ts i d).start ≡ start_at i ts
start_is [] i d lt = absurd (omega (arith, lt))
start_is (t ∷ ts) zero d lt = refl
start_is (t ∷ ts) (suc i) d lt = start_is ts i d (omega (arith, lt))

pub end_is : (ts : List Token) (i : ℕ) (d : Token) → i < length ts → end_of (get_or ts i d) ≡ end_at i ts
end_is [] i d lt = absurd (omega (arith, lt))
end_is (t ∷ ts) zero d lt = refl
end_is (t ∷ ts) (suc i) d lt = end_is ts i d (omega (arith, lt))

pub sql_is : (z : List ℕ) (ts : List Token) (n : ℕ) (d e : Token) → n ≡ body_length ts → n ≤ length ts → (n ≡ 0 → ⊥)
    → slice_range z (get_or ts 0 d).start (end_of (get_or ts (n - 1) e)) ≡ sql_of z ts
sql_is z ts n d e same le some =
    let a : (get_or ts 0 d).start ≡ start_at 0 ts = start_is ts 0 d (omega arith) in
    let b : end_of (get_or ts (n - 1) e) ≡ end_at (n - 1) ts = end_is ts (n - 1) e (omega arith) in
    let t : eqb n 0 ≡ false = ne_eqb n 0 some in
    rw (a, b) (sym (ap (span z ts) (sym same) ∙ ap (λ (x : Bool). if x then [] else slice_range z (start_at 0 ts) (end_at (n - 1) ts)) t))
