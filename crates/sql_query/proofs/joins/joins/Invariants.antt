use Rattle.std.proofs.Common.{◌≡◌, ◌-◌, length}
use Rattle.sql_expr.specs.Symbols.{seen}
use Rattle.sql_grammar.specs.Readers.{many, many_upto}
use Rattle.sql_query.specs.QueryReading.{next_join_from}
use Rattle.sql_query.proofs.joins.joins.Given as goal

abbrev pub invariant-joins : goal.invariant-joins
invariant-joins l = many next_join_from (seen l.spelled l.tokens) ≡ many_upto next_join_from (length l.tokens - l.counter) l.joins (seen l.spelled l.rest)
