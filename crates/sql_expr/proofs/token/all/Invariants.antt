use Rattle.std.proofs.Common.{◌≡◌, take}
use Rattle.sql_expr.specs.Symbols.{symbols, seen}
use Rattle.sql_expr.proofs.token.all.Given as goal

abbrev pub invariant-loop-place : goal.invariant-loop-place
invariant-loop-place l = seen l.spelled l.tokens.items ≡ symbols (take l.place l.spelled)
