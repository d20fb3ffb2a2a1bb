use Rattle.std.proofs.Common.{◌≡◌, ◌-◌, length}
use Rattle.sql_expr.specs.Symbols.{seen}
use Rattle.sql_grammar.specs.Readers.{listed, listed_upto}
use Rattle.sql_query.specs.QueryReading.{result_from}
use Rattle.sql_query.proofs.queries.all_results.Given as goal

abbrev pub invariant-results : goal.invariant-results
invariant-results l = listed result_from (seen l.spelled l.tokens) ≡ listed_upto result_from (length l.tokens - l.counter) l.results (seen l.spelled l.rest)
