use Rattle.executor_programs.proofs.Holding.{held_beside, unbound}
use Rattle.executor_programs.proofs.running.holds_at.Goals as goal

pub returns-in_err-condition-clause-answered : goal.returns-in_err-condition-clause-answered
returns-in_err-condition-clause-answered c = λ seen shows good.
    unbound seen c.args.outer.scope.now c.args.trigger.now.definition.condition c.in_err-condition.field-0.0 c.from_residual.result c.from_residual.ensures.1 shows.scope good c.in_err-condition.ensures.named

pub returns-clause-answered : goal.returns-clause-answered
returns-clause-answered c = λ seen shows good.
    held_beside seen c.args.outer.scope.now c.args.trigger.now.definition.condition c.in_ok-condition.condition c.is_true_beside.result shows.scope c.in_ok-condition.ensures.named
    (c.is_true_beside.ensures.answered seen shows)
