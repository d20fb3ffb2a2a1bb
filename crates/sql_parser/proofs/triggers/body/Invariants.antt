use Rattle.std.proofs.Common.{◌≡◌, ◌-◌, length}
use Rattle.sql_expr.specs.Symbols.{seen}
use Rattle.sql_parser.specs.ObjectReading.{body_from, body_upto}
use Rattle.sql_parser.proofs.triggers.body.Given as goal

abbrev pub invariant-body : goal.invariant-body
invariant-body l = body_from (seen l.spelled l.tokens) ≡ body_upto (length l.tokens - l.counter) l.body (seen l.spelled l.rest)
