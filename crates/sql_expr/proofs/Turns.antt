-- A recursion on a count of turns, beside a loop that counts up.
use Rattle.std.proofs.Common.{◌≡◌, ℕ, suc, ◌+◌, ◌-◌, ◌<◌, List, length, ap, ◌∙◌, arith}
use Rattle.std.proofs.lemmas.List.{length-map}
use Rattle.sql_lexer.specs.declared.token.Token.{Token}
use Rattle.sql_expr.specs.declared.token.TokenAt.{TokenAt}
use Rattle.sql_expr.specs.Symbols.{meant, seen, spelling_at}

pub one_more : {X : Type 0} {x : X} (f : ℕ → X) (n at : ℕ) → at < n → x ≡ f (n - at) → x ≡ f (suc (n - (at + 1)))
one_more f n at below e = let turn : n - at ≡ suc (n - (at + 1)) = omega arith in e ∙ ap f turn

pub one_more_seen : {X : Type 0} {x : X} (f : ℕ → X) (whole : List Token) (ts : List TokenAt) (at : ℕ) → at < length ts → x ≡ f (length (seen whole ts) - at) → x ≡ f (suc (length (seen whole ts) - (at + 1)))
one_more_seen f whole ts at below e = one_more f (length (seen whole ts)) at (omega (arith, length-map ts (λ (t : TokenAt). meant t.kind (spelling_at whole t.place)))) e
