use Rattle.std.proofs.Common.{◌≡◌, ◌-◌, length}
use Rattle.sql_expr.specs.Symbols.{seen}
use Rattle.sql_expr.specs.Reading.{names_from, names_upto}
use Rattle.sql_expr.proofs.naming.names.Given as goal

abbrev pub invariant-names : goal.invariant-names
invariant-names l =
    names_from (seen l.spelled l.tokens) ≡ names_upto (length (seen l.spelled l.tokens) - l.counter) l.names (seen l.spelled l.rest)
