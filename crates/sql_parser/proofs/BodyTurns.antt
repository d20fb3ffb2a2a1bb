-- The statements of a trigger, read one by one beside a loop that counts up.
use Rattle.std.proofs.Common.{◌≡◌, ℕ, ◌+◌, ◌-◌, ◌<◌, List, [], ◌∷◌, ◌++◌, length, None, Ok, refl, ap, ◌∙◌, arith}
use Rattle.sql_lexer.specs.declared.keyword.Keyword.TheVariants as w
use Rattle.sql_lexer.specs.declared.token.Kind.TheVariants as k
use Rattle.sql_lexer.specs.declared.token.Token.{Token}
use Rattle.sql_syntax.specs.declared.create.TriggerStatement.{TriggerStatement}
use Rattle.sql_expr.specs.declared.token.TokenAt.{TokenAt}
use Rattle.sql_expr.specs.Symbols.{Symbol, seen}
use Rattle.sql_expr.specs.Reading.{Read, ◌>>=◌, after_word}
use Rattle.sql_grammar.specs.Readers.{before_mark}
use Rattle.sql_grammar.proofs.Turns.{one_more, seen_length}
use Rattle.sql_parser.specs.ObjectReading.{program_from, body_from, body_upto, end_by}

pub body_begins : (found : List TriggerStatement) (z : List Token) (ts : List TokenAt) → found ≡ [] → body_from (seen z ts) ≡ body_upto (length ts - 0) found (seen z ts)
unfolding body_from
body_begins found z ts h = let e : length (seen z ts) ≡ length ts - 0 = omega (arith, seen_length z ts) in rw (h, e) refl

pub body_goes_on : (n at : ℕ) (found longer : List TriggerStatement) (ts : List Symbol) (a : TriggerStatement) (after : List Symbol) (whole : Read (List TriggerStatement)) → at < n
    → whole ≡ body_upto (n - at) found ts → before_mark k.Semicolon program_from ts ≡ Ok (a, after) → longer ≡ found ++ a ∷ [] → None ≡ after_word w.End after
    → whole ≡ body_upto (n - (at + 1)) longer after
unfolding body_upto
body_goes_on n at found longer ts a after whole lt e h l c =
    let s : whole ≡ (before_mark k.Semicolon program_from ts >>= λ a. end_by (body_upto (n - (at + 1))) (found ++ a.0 ∷ []) a.1 (after_word w.End a.1)) =
    e ∙ ap (λ m. body_upto m found ts) (one_more n at lt) in
    s ∙ rw (h, ← c, l) refl
