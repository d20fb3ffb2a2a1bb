-- What the kind of a token says of the piece that it means.
use Rattle.std.proofs.Common.{◌≡◌, ◌-◌, ℕ, List, [], ◌∷◌, length, take, drop, get_or, Option, Some, None, ap, sym, ◌∙◌, arith}
use Rattle.std.proofs.lemmas.List.{take_all}
use Rattle.sql_lexer.specs.declared.token.Token.{Token}
use Rattle.sql_expr.specs.declared.token.TokenAt.{TokenAt}
use Rattle.sql_lexer.specs.declared.keyword.Keyword.TheVariants as w
use Rattle.sql_lexer.specs.declared.token.Kind.{Kind}
use Rattle.sql_lexer.specs.declared.token.Kind.TheVariants as t
use Rattle.sql_syntax.specs.declared.expr.Operator.{Operator}
use Rattle.sql_expr.specs.Grammar.{operator}
use Rattle.sql_expr.specs.Symbols.{Symbol, Plain, meant, seen, spelling_at}
use Rattle.sql_expr.specs.Reading.{Read, Deep, operand, by_operator, tail}

-- a token with an operator of its own goes on with its operand
pub by_operator_seen : (inner : ℕ → List Symbol → Read Deep) (room r : ℕ) (d : Deep) (s : Kind) (z : List ℕ) (o : Operator) (ts : List Symbol) → operator s ≡ Some o
    → tail inner room r d (meant s z ∷ ts) ≡ operand inner room r o d ts
unfolding tail
by_operator_seen inner room r d t.Name z o ts e = absurd cc
by_operator_seen inner room r d t.QuotedName z o ts e = absurd cc
by_operator_seen inner room r d t.Text z o ts e = absurd cc
by_operator_seen inner room r d t.Blob z o ts e = absurd cc
by_operator_seen inner room r d (t.Word w.Collate) z o ts e = absurd cc
by_operator_seen inner room r d (t.Word w.Is) z o ts e = absurd cc
by_operator_seen inner room r d (t.Word w.Between) z o ts e = absurd cc
by_operator_seen inner room r d (t.Word w.In) z o ts e = absurd cc
by_operator_seen inner room r d (t.Word w.Not) z o ts e = absurd cc
by_operator_seen inner room r d s z o ts e = ap (λ (x : Option Operator). by_operator inner room r x d ts (Plain s ∷ ts)) e

-- the same of tokens that begin so; without any the operator is none
pub tail_seen : (inner : ℕ → List Symbol → Read Deep) (room r : ℕ) (d : Deep) (whole : List Token) (ts : List TokenAt) (e : TokenAt) (o : Operator) → operator e.kind ≡ None → operator (get_or ts 0 e).kind ≡ Some o
    → tail inner room r d (seen whole ts) ≡ operand inner room r o d (seen whole (take (length ts - 1) (drop 1 ts)))
tail_seen inner room r d whole [] e o none is = absurd cc
tail_seen inner room r d whole (x ∷ ts) e o none is =
    by_operator_seen inner room r d x.kind (spelling_at whole x.place) o (seen whole ts) is
    ∙ ap (λ (us : List TokenAt). operand inner room r o d (seen whole us)) (sym (take_all (length (x ∷ ts) - 1) ts (omega arith)))
