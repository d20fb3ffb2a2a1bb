-- The text of a statement.
use Rattle.std.specs.Prelude.{ℕ, zero, suc, ◌-◌, ◌==◌, Bool, false, if◌then◌else◌, List, [], ◌∷◌, length, Option, None, Some, slice_get, slice_range}
use Rattle.sql_lexer.specs.declared.token.Token.{Token}
use Rattle.sql_lexer.specs.Spans.{end_of}
use Rattle.sql_grammar.specs.Texts.{is_semicolon}

abbrev pub is_closing : Option Token → Bool
is_closing None = false
is_closing (Some t) = is_semicolon t.kind

-- how many tokens there are without a closing semicolon
abbrev pub body_length : List Token → ℕ
body_length ts = if is_closing (slice_get ts (length ts - 1)) then length ts - 1 else length ts

-- where the token at a place begins
abbrev pub start_at : ℕ → List Token → ℕ
start_at n [] = 0
start_at zero (t ∷ ts) = t.start
start_at (suc n) (t ∷ ts) = start_at n ts

-- where the token at a place ends
abbrev pub end_at : ℕ → List Token → ℕ
end_at n [] = 0
end_at zero (t ∷ ts) = end_of t
end_at (suc n) (t ∷ ts) = end_at n ts

abbrev pub span : List ℕ → List Token → ℕ → List ℕ
span z ts n = if n == 0 then [] else slice_range z (start_at 0 ts) (end_at (n - 1) ts)

-- the text from the first to the last token, without a closing semicolon
abbrev pub sql_of : List ℕ → List Token → List ℕ
sql_of z ts = span z ts (body_length ts)
