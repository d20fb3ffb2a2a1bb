use Rattle.std.proofs.Common.{◌≡◌, ◌-◌, length}
use Rattle.sql_expr.specs.Symbols.{seen}
use Rattle.sql_grammar.specs.Readers.{listed, listed_upto}
use Rattle.sql_query.specs.QueryReading.{term_from}
use Rattle.sql_query.proofs.queries.order_terms.Given as goal

abbrev pub invariant-terms : goal.invariant-terms
invariant-terms l = listed term_from (seen l.spelled l.tokens) ≡ listed_upto term_from (length l.tokens - l.counter) l.terms (seen l.spelled l.rest)
