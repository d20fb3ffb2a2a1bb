-- The test of marks tells them apart.
use Rattle.std.proofs.Common.{◌≡◌, Bool, true, false, refl, cond, List, [], ◌∷◌, Result, Ok, sym, ap, ◌∙◌}
use Rattle.sql_lexer.specs.declared.token.Kind.{Kind}
use Rattle.sql_lexer.specs.declared.token.Kind.TheVariants as t
use Rattle.sql_expr.specs.declared.refusal.Refusal.{Refusal}
use Rattle.sql_expr.specs.Symbols.{Symbol, Plain, same_kind, is_mark}
use Rattle.sql_expr.specs.Reading.{mark_from, fail}

abbrev done : {A : Type 0} → A → Result A Refusal
done x = Ok x

same_rest : (us vs : List Symbol) → done us ≡ done vs → us ≡ vs
same_rest us vs h = cc

-- the test of this mark finds no other piece
abbrev pub Tells : Kind → Type 0
Tells kind = (s : Symbol) → is_mark kind s ≡ true → s ≡ Plain kind

-- a mark that is read is that mark
pub mark_from_is : (kind : Kind) → Tells kind → (ts rest : List Symbol) → mark_from kind ts ≡ Ok rest → ts ≡ Plain kind ∷ rest
unfolding mark_from
mark_from_is kind tells [] rest h = absurd cc
mark_from_is kind tells (s ∷ ts) rest h = by_test (is_mark kind s) refl h
  where
    by_test : (b : Bool) → is_mark kind s ≡ b → cond b (done ts) (fail (s ∷ ts)) ≡ Ok rest → s ∷ ts ≡ Plain kind ∷ rest
    by_test true e h = let k = tells s e in let l = same_rest ts rest h in λ i. k i ∷ l i
    by_test false e h = absurd cc

abbrev is_right : Kind → Bool
is_right t.RightParen = true
is_right _ = false

same_right : (s : Kind) → same_kind s t.RightParen ≡ is_right s
same_right t.RightParen = refl
same_right _ = refl

only_right : (s : Kind) → is_right s ≡ true → s ≡ t.RightParen
only_right t.RightParen h = refl
only_right _ h = absurd cc

pub tells_right : Tells t.RightParen
tells_right (Plain s) h = ap Plain (only_right s (sym (same_right s) ∙ h))
tells_right _ h = absurd cc

abbrev is_left : Kind → Bool
is_left t.LeftParen = true
is_left _ = false

same_left : (s : Kind) → same_kind s t.LeftParen ≡ is_left s
same_left t.LeftParen = refl
same_left _ = refl

only_left : (s : Kind) → is_left s ≡ true → s ≡ t.LeftParen
only_left t.LeftParen h = refl
only_left _ h = absurd cc

pub tells_left : Tells t.LeftParen
tells_left (Plain s) h = ap Plain (only_left s (sym (same_left s) ∙ h))
tells_left _ h = absurd cc

abbrev is_comma : Kind → Bool
is_comma t.Comma = true
is_comma _ = false

same_comma : (s : Kind) → same_kind s t.Comma ≡ is_comma s
same_comma t.Comma = refl
same_comma _ = refl

only_comma : (s : Kind) → is_comma s ≡ true → s ≡ t.Comma
only_comma t.Comma h = refl
only_comma _ h = absurd cc

pub tells_comma : Tells t.Comma
tells_comma (Plain s) h = ap Plain (only_comma s (sym (same_comma s) ∙ h))
tells_comma _ h = absurd cc

abbrev is_equal : Kind → Bool
is_equal t.Equal = true
is_equal _ = false

same_equal : (s : Kind) → same_kind s t.Equal ≡ is_equal s
same_equal t.Equal = refl
same_equal _ = refl

only_equal : (s : Kind) → is_equal s ≡ true → s ≡ t.Equal
only_equal t.Equal h = refl
only_equal _ h = absurd cc

pub tells_equal : Tells t.Equal
tells_equal (Plain s) h = ap Plain (only_equal s (sym (same_equal s) ∙ h))
tells_equal _ h = absurd cc

abbrev is_semicolon : Kind → Bool
is_semicolon t.Semicolon = true
is_semicolon _ = false

same_semicolon : (s : Kind) → same_kind s t.Semicolon ≡ is_semicolon s
same_semicolon t.Semicolon = refl
same_semicolon _ = refl

only_semicolon : (s : Kind) → is_semicolon s ≡ true → s ≡ t.Semicolon
only_semicolon t.Semicolon h = refl
only_semicolon _ h = absurd cc

pub tells_semicolon : Tells t.Semicolon
tells_semicolon (Plain s) h = ap Plain (only_semicolon s (sym (same_semicolon s) ∙ h))
tells_semicolon _ h = absurd cc
