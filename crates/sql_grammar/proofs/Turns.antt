-- Lists that are read item by item, beside loops that count up.
use Rattle.std.proofs.Common.{◌≡◌, ℕ, suc, ◌+◌, ◌-◌, ◌<◌, ◌≤◌, List, [], ◌∷◌, ◌++◌, length, Option, Some, None, Ok, Err, refl, ap, ◌∙◌, arith}
use Rattle.sql_lexer.specs.declared.token.Token.{Token}
use Rattle.sql_expr.specs.declared.token.TokenAt.{TokenAt}
use Rattle.sql_expr.specs.declared.refusal.Refusal.{Refusal}
use Rattle.sql_expr.specs.Symbols.{Symbol, seen}
use Rattle.sql_expr.specs.Reading.{Read, fail, ◌>>=◌, after_comma}
use Rattle.sql_grammar.specs.Readers.{Reader, listed, listed_upto, many, many_upto, next_by, more_by}

pub seen_length : (z : List Token) (ts : List TokenAt) → length (seen z ts) ≡ length ts
seen_length z [] = refl
seen_length z (t ∷ ts) = ap suc (seen_length z ts)

pub one_more : (n at : ℕ) → at < n → n - at ≡ suc (n - (at + 1))
one_more n at below = omega arith

none_more : (n at : ℕ) → n ≤ at → n - at ≡ 0
none_more n at done = omega arith

module _ {A : Type 0} (p : Reader A) where
  pub listed_begins : (found : List A) (z : List Token) (ts : List TokenAt) → found ≡ [] → listed p (seen z ts) ≡ listed_upto p (length ts - 0) found (seen z ts)
  unfolding listed
  listed_begins found z ts h = let e : length (seen z ts) ≡ length ts - 0 = omega (arith, seen_length z ts) in rw (h, e) refl

  -- what one turn leaves
  listed_step : (n at : ℕ) (found : List A) (ts : List Symbol) (whole : Read (List A)) → at < n → whole ≡ listed_upto p (n - at) found ts
      → whole ≡ (p ts >>= λ a. next_by (listed_upto p (n - (at + 1))) (found ++ a.0 ∷ []) a.1 (after_comma a.1))
  unfolding listed_upto
  listed_step n at found ts whole lt e = e ∙ ap (λ m. listed_upto p m found ts) (one_more n at lt)

  pub listed_goes_on : (n at : ℕ) (found longer : List A) (ts : List Symbol) (a : A) (after rest : List Symbol) (whole : Read (List A)) → at < n
      → whole ≡ listed_upto p (n - at) found ts → p ts ≡ Ok (a, after) → longer ≡ found ++ a ∷ [] → Some rest ≡ after_comma after
      → whole ≡ listed_upto p (n - (at + 1)) longer rest
  listed_goes_on n at found longer ts a after rest whole lt e h l c = let s = listed_step n at found ts whole lt e in s ∙ rw (h, ← c, l) refl

  pub listed_ends : (n at : ℕ) (found longer : List A) (ts : List Symbol) (a : A) (after : List Symbol) (whole : Read (List A)) → at < n
      → whole ≡ listed_upto p (n - at) found ts → p ts ≡ Ok (a, after) → longer ≡ found ++ a ∷ [] → None ≡ after_comma after → whole ≡ Ok (longer, after)
  listed_ends n at found longer ts a after whole lt e h l c = let s = listed_step n at found ts whole lt e in s ∙ rw (h, ← c, l) refl

  pub listed_fails : (n at : ℕ) (found : List A) (ts : List Symbol) (r : Refusal) (whole : Read (List A)) → at < n
      → whole ≡ listed_upto p (n - at) found ts → p ts ≡ Err r → whole ≡ Err r
  listed_fails n at found ts r whole lt e h = let s = listed_step n at found ts whole lt e in s ∙ rw h refl

  pub listed_out : (n at : ℕ) (found : List A) (ts : List Symbol) (whole : Read (List A)) → n ≤ at → whole ≡ listed_upto p (n - at) found ts → whole ≡ fail ts
  unfolding listed_upto
  listed_out n at found ts whole le e = e ∙ ap (λ m. listed_upto p m found ts) (none_more n at le)

module _ {A : Type 0} (p : Reader (Option A)) where
  pub many_begins : (found : List A) (z : List Token) (ts : List TokenAt) → found ≡ [] → many p (seen z ts) ≡ many_upto p (length ts - 0) found (seen z ts)
  unfolding many
  many_begins found z ts h = let e : length (seen z ts) ≡ length ts - 0 = omega (arith, seen_length z ts) in rw (h, e) refl

  pub many_begins_behind : (found : List A) (z : List Token) (ts : List TokenAt) → many_upto p (length (seen z ts)) found (seen z ts) ≡ many_upto p (length ts - 0) found (seen z ts)
  many_begins_behind found z ts = let e : length (seen z ts) ≡ length ts - 0 = omega (arith, seen_length z ts) in rw e refl

  many_step : (n at : ℕ) (found : List A) (ts : List Symbol) (whole : Read (List A)) → at < n → whole ≡ many_upto p (n - at) found ts
      → whole ≡ (p ts >>= λ a. more_by (many_upto p (n - (at + 1))) found a.0 a.1)
  unfolding many_upto
  many_step n at found ts whole lt e = e ∙ ap (λ m. many_upto p m found ts) (one_more n at lt)

  pub many_goes_on : (n at : ℕ) (found longer : List A) (ts : List Symbol) (a : A) (rest : List Symbol) (whole : Read (List A)) → at < n
      → whole ≡ many_upto p (n - at) found ts → p ts ≡ Ok (Some a, rest) → longer ≡ found ++ a ∷ [] → whole ≡ many_upto p (n - (at + 1)) longer rest
  many_goes_on n at found longer ts a rest whole lt e h l = let s = many_step n at found ts whole lt e in s ∙ rw (h, l) refl

  pub many_ends : (n at : ℕ) (found : List A) (ts rest : List Symbol) (whole : Read (List A)) → at < n
      → whole ≡ many_upto p (n - at) found ts → p ts ≡ Ok (None, rest) → whole ≡ Ok (found, rest)
  many_ends n at found ts rest whole lt e h = let s = many_step n at found ts whole lt e in s ∙ rw h refl

  pub many_fails : (n at : ℕ) (found : List A) (ts : List Symbol) (r : Refusal) (whole : Read (List A)) → at < n
      → whole ≡ many_upto p (n - at) found ts → p ts ≡ Err r → whole ≡ Err r
  many_fails n at found ts r whole lt e h = let s = many_step n at found ts whole lt e in s ∙ rw h refl

  pub many_out : (n at : ℕ) (found : List A) (ts : List Symbol) (whole : Read (List A)) → n ≤ at → whole ≡ many_upto p (n - at) found ts → whole ≡ Ok (found, ts)
  unfolding many_upto
  many_out n at found ts whole le e = e ∙ ap (λ m. many_upto p m found ts) (none_more n at le)
