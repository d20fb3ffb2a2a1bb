use Rattle.std.proofs.Common.{length}
use Rattle.sql_expr.specs.Symbols.{seen}
use Rattle.sql_query.specs.QueryReading.{result_from}
use Rattle.sql_grammar.proofs.Turns.{listed_begins, listed_goes_on}
use Rattle.sql_query.proofs.queries.all_results.Goals as goal

pub results-init : goal.results-init
results-init c = listed_begins result_from c.new-results.result c.args.spelled.now c.args.tokens.now c.new-results.ensures

pub results-preserved : goal.results-preserved
results-preserved c =
    listed_goes_on result_from (length c.args.tokens.now) c.results.counter c.results.results _ (seen c.args.spelled.now c.results.rest.now) c.in_ok-item.item
    (seen c.args.spelled.now c.in_ok-item.after.now) _ _ c.results-test.true c.results.invariant c.in_ok-item.ensures c.in_ok-push.ensures (c.in-Some.ensures c.args.spelled.now)
