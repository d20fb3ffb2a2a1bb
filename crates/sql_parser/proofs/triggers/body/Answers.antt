use Rattle.std.proofs.Common.{length}
use Rattle.sql_expr.specs.Symbols.{seen}
use Rattle.sql_parser.proofs.BodyTurns.{body_begins, body_goes_on}
use Rattle.sql_parser.proofs.triggers.body.Goals as goal

pub body-init : goal.body-init
body-init c = body_begins c.new-body.result c.args.spelled.now c.args.tokens.now c.new-body.ensures

pub body-preserved : goal.body-preserved
body-preserved c =
    body_goes_on (length c.args.tokens.now) c.body.counter c.body.body _ (seen c.args.spelled.now c.body.rest.now) c.in_ok-statement.statement
    (seen c.args.spelled.now c.in_ok-statement.after.now) _ c.body-test.true c.body.invariant c.in_ok-statement.ensures c.in_ok-push.ensures (c.in-None.ensures c.args.spelled.now)
