-- What is read after a part of an expression.
use Rattle.std.specs.Prelude.{ℕ, List, Some, Ok}
use Rattle.sql_lexer.specs.declared.token.Kind.TheVariants as k
use Rattle.sql_syntax.specs.Tree as tree
use Rattle.sql_expr.specs.Symbols.{Symbol}
use Rattle.sql_expr.specs.Reading.{Read, Deep, Deeps, ◌>>=◌, leaf, mark_from, name_from, over, fail, collate, operand, between, among}
use Rattle.sql_expr.specs.declared.following.Turn.{Turn}
use Rattle.sql_expr.specs.declared.following.Turn.TheVariants as turn

-- what is read after a part
abbrev pub and_then : {A B : Type 0} → Read A → (A → List Symbol → Read B) → Read B
and_then part next = part >>= λ x. next x.0 x.1

-- an expression in parentheses, after the expression
abbrev pub closing : ℕ → Deep → List Symbol → Read Deep
closing room e ts = mark_from k.RightParen ts >>= λ after. over room (tree.Paren e.tree) e.depth after

-- expressions, and the closing parenthesis after them
abbrev pub all_closed : Deeps → List Symbol → Read Deeps
all_closed es ts = mark_from k.RightParen ts >>= λ after. Ok (es, after)

-- the function of `*`, after the mark
abbrev pub of_all : List ℕ → List Symbol → Read Deep
of_all f ts = mark_from k.RightParen ts >>= λ after. Ok (leaf (tree.CallAll f), after)

-- a column of a source, after the dot
abbrev pub of_source : List ℕ → List Symbol → Read Deep
of_source c ts = name_from ts >>= λ x. Ok (leaf (tree.Column (Some c) x.0), x.1)

-- the form that goes on after a left operand
abbrev pub by_turn : (ℕ → List Symbol → Read Deep) → ℕ → ℕ → Deep → Turn → List Symbol → Read Deep
by_turn inner room r left turn.Collate ts = collate inner room left ts
by_turn inner room r left (turn.Binary o) ts = operand inner room r o left ts
by_turn inner room r left (turn.Between n) ts = between inner room r n left ts
by_turn inner room r left (turn.In n) ts = among inner room n left ts
by_turn inner room r left turn.Nothing ts = fail ts
