use Rattle.std.proofs.Common.{length}
use Rattle.sql_expr.specs.Symbols.{seen}
use Rattle.sql_expr.specs.Reading.{row_from}
use Rattle.sql_grammar.proofs.Turns.{listed_begins, listed_goes_on}
use Rattle.sql_query.proofs.changes.rows.Goals as goal

pub rows-init : goal.rows-init
rows-init c = listed_begins row_from c.new-rows.result c.args.spelled.now c.args.tokens.now c.new-rows.ensures

pub rows-preserved : goal.rows-preserved
rows-preserved c =
    listed_goes_on row_from (length c.args.tokens.now) c.rows.counter c.rows.rows _ (seen c.args.spelled.now c.rows.rest.now) c.in_ok-values.values
    (seen c.args.spelled.now c.in_ok-values.after.now) _ _ c.rows-test.true c.rows.invariant c.in_ok-values.ensures c.in_ok-push.ensures (c.in-Some.ensures c.args.spelled.now)
