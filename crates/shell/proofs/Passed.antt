-- The pieces of a text: the one at the front, and those of the rest.
use Rattle.std.proofs.Common.{◌≡◌, ℕ, zero, suc, ◌+◌, ◌-◌, ◌<◌, Bool, true, false, [], ◌∷◌, length, drop, Option, Some, None, refl, sym, ap, subst, ◌∙◌, arith, add_assoc}
use Rattle.sql_lexer.specs.Lex.{Text, plus}
use Rattle.shell.specs.Pieces.{front, text_pieces, pieces_from_inside}
use Rattle.shell.specs.Statements.{phase_after, end_from, ends, is_blank, is_gap}
use Rattle.shell.specs.declared.pieces.Sort.{Sort}
use Rattle.shell.specs.declared.statements.Phase.{Phase}

pub inside : (k : ℕ) (z : Text) → pieces_from_inside k z ≡ pieces_from_inside 0 (drop k z)
unfolding pieces_from_inside
inside zero z = refl
inside (suc k) [] = refl
inside (suc k) (b ∷ z) = inside k z

pub passed : (k b : ℕ) (z : Text) → 0 < k → pieces_from_inside (k - 1) z ≡ pieces_from_inside 0 (drop k (b ∷ z))
passed zero b z h = absurd (omega arith)
passed (suc k) b z h = let e : suc k - 1 ≡ k = omega arith in rw e (inside k z)

-- the first piece, and the others
pub cut : (z : Text) → 0 < length z → 0 < (front z).1 → text_pieces z ≡ front z ∷ text_pieces (drop (front z).1 z)
unfolding pieces_from_inside
cut [] h g = absurd (omega arith)
cut (b ∷ z) h g = ap (λ ps. front (b ∷ z) ∷ ps) (passed (front (b ∷ z)).1 b z g)

pub plus_twice : (a b : ℕ) (o : Option ℕ) → plus a (plus b o) ≡ plus (a + b) o
plus_twice a b None = refl
plus_twice a b (Some n) = ap (λ m. Some m) (sym (add_assoc a b n))

-- the statement ends with the piece at the front of the rest
pub ended : (at : ℕ) (phase : Phase) (z : Text) (f : Sort × ℕ) (all : Option ℕ) → f ≡ front z → 0 < length z → 0 < f.1
    → ends phase f.0 ≡ true → plus at (end_from phase (text_pieces z)) ≡ all → Some (at + f.1) ≡ all
ended at phase z f all is h g e so = subst (λ it. (0 < it.1) → ends phase it.0 ≡ true → Some (at + it.1) ≡ all) (sym is)
    (λ g e. let first : end_from phase (text_pieces z) ≡ Some (front z).1 = rw (cut z h g) (rw e refl) in
    ap (plus at) (sym first) ∙ so) g e

pub on : (at : ℕ) (phase : Phase) (z : Text) (f : Sort × ℕ) (all : Option ℕ) → f ≡ front z → 0 < length z → 0 < f.1
    → ends phase f.0 ≡ false → plus at (end_from phase (text_pieces z)) ≡ all
    → plus (at + f.1) (end_from (phase_after phase f.0) (text_pieces (drop f.1 z))) ≡ all
on at phase z f all is h g e so =
    subst (λ it. (0 < it.1) → ends phase it.0 ≡ false → plus (at + it.1) (end_from (phase_after phase it.0) (text_pieces (drop it.1 z))) ≡ all) (sym is)
    (λ g e. let first : end_from phase (text_pieces z) ≡ plus (front z).1 (end_from (phase_after phase (front z).0) (text_pieces (drop (front z).1 z)))
    = rw (cut z h g) (rw e refl) in
    sym (plus_twice at (front z).1 (end_from (phase_after phase (front z).0) (text_pieces (drop (front z).1 z)))) ∙ ap (plus at) (sym first) ∙ so) g e

-- the statement goes on after it
pub goes : (at : ℕ) (phase next : Phase) (z rest : Text) (f : Sort × ℕ) (all : Option ℕ) → f ≡ front z → 0 < length z → 0 < f.1
    → ends phase f.0 ≡ false → plus at (end_from phase (text_pieces z)) ≡ all → next ≡ phase_after phase f.0 → rest ≡ drop f.1 z
    → plus (at + f.1) (end_from next (text_pieces rest)) ≡ all
goes at phase next z rest f all is h g e so n r = rw (n, r) (on at phase z f all is h g e so)

-- the piece at the front of the rest is no gap
pub filled : (z : Text) (f : Sort × ℕ) (all : Bool) → f ≡ front z → 0 < length z → 0 < f.1 → is_gap f.0 ≡ false → is_blank z ≡ all
    → false ≡ all
filled z f all is h g e so = subst (λ it. (0 < it.1) → is_gap it.0 ≡ false → false ≡ all) (sym is)
    (λ g e. let first : is_blank z ≡ false = rw (cut z h g) (rw e refl) in sym first ∙ so) g e

-- it is one
pub blank : (z : Text) (f : Sort × ℕ) (all : Bool) → f ≡ front z → 0 < length z → 0 < f.1 → is_gap f.0 ≡ true → is_blank z ≡ all
    → is_blank (drop f.1 z) ≡ all
blank z f all is h g e so = subst (λ it. (0 < it.1) → is_gap it.0 ≡ true → is_blank (drop it.1 z) ≡ all) (sym is)
    (λ g e. let first : is_blank z ≡ is_blank (drop (front z).1 z) = rw (cut z h g) (rw e refl) in sym first ∙ so) g e

-- nothing is left
pub none_left : (z : Text) → length z ≡ 0 → text_pieces z ≡ []
unfolding pieces_from_inside
none_left [] h = refl
none_left (b ∷ z) h = absurd (omega (arith, h))

pub never_ended : (at : ℕ) (phase : Phase) (z : Text) (all : Option ℕ) → length z ≡ 0 → plus at (end_from phase (text_pieces z)) ≡ all
    → None ≡ all
never_ended at phase z all h so = let e : plus at (end_from phase (text_pieces z)) ≡ None = rw (none_left z h) refl in sym e ∙ so

pub all_blank : (z : Text) (all : Bool) → length z ≡ 0 → is_blank z ≡ all → true ≡ all
all_blank z all h so = let e : is_blank z ≡ true = rw (none_left z h) refl in sym e ∙ so
