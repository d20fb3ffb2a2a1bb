use Rattle.std.proofs.Common.{length, rules}
use Rattle.sql_expr.specs.Symbols.{seen}
use Rattle.sql_query.specs.QueryReading.{next_join_from}
use Rattle.sql_grammar.proofs.Turns.{many_begins, many_goes_on}
use Rattle.sql_query.proofs.joins.joins.Goals as goal

pub joins-init : goal.joins-init
joins-init c = many_begins next_join_from c.new-joins.result c.args.spelled.now c.args.tokens.now c.new-joins.ensures

pub joins-preserved : goal.joins-preserved
joins-preserved c =
    many_goes_on next_join_from (length c.args.tokens.now) c.joins.counter c.joins.joins _ (seen c.args.spelled.now c.joins.rest.now) c.in-Some.join
    (seen c.args.spelled.now c.in_ok-found.after.now) _ c.joins-test.true c.joins.invariant (search rules) c.in_ok-push.ensures
