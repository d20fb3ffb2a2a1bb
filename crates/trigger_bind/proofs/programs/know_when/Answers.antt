use Rattle.std.proofs.Common.{ap, ◌∙◌}
use Rattle.query_names.specs.Checked.{faults}
use Rattle.query_names.specs.Queries.{resolve_filter}
use Rattle.trigger_bind.proofs.Bodies.{knows_as, knows_err, when_is}
use Rattle.trigger_bind.proofs.programs.know_when.Goals as goal

pub returns-in_err-bind_filter-clause-known : goal.returns-in_err-bind_filter-clause-known
returns-in_err-bind_filter-clause-known c = λ rows.
    knows_as (when_is c.args.outer.now rows c.args.condition.now) c.from_residual.result
    (knows_err (faults (resolve_filter c.args.outer.now c.args.condition.now)) c.in_err-bind_filter.field-0.0 c.from_residual.result c.from_residual.ensures.1 c.in_err-bind_filter.ensures.named)

pub returns-clause-known : goal.returns-clause-known
returns-clause-known c = λ rows. when_is c.args.outer.now rows c.args.condition.now ∙ ap faults c.in_ok-bind_filter.ensures.named
