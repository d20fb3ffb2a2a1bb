use Rattle.std.proofs.Common.{length}
use Rattle.sql_expr.specs.Symbols.{seen}
use Rattle.sql_query.specs.ChangeReading.{assignment_from}
use Rattle.sql_grammar.proofs.Turns.{listed_begins, listed_goes_on}
use Rattle.sql_query.proofs.changes.assignments.Goals as goal

pub assignments-init : goal.assignments-init
assignments-init c = listed_begins assignment_from c.new-assignments.result c.args.spelled.now c.args.tokens.now c.new-assignments.ensures

pub assignments-preserved : goal.assignments-preserved
assignments-preserved c =
    listed_goes_on assignment_from (length c.args.tokens.now) c.assignments.counter c.assignments.assignments _ (seen c.args.spelled.now c.assignments.rest.now) c.in_ok-given.given
    (seen c.args.spelled.now c.in_ok-given.after.now) _ _ c.assignments-test.true c.assignments.invariant c.in_ok-given.ensures c.in_ok-push.ensures (c.in-Some.ensures c.args.spelled.now)
