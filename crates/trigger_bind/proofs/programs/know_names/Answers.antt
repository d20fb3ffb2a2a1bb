use Rattle.std.proofs.Common.{ap}
use Rattle.query_names.specs.Checked.{faults}
use Rattle.row_change.specs.Changes.{resolve_change}
use Rattle.trigger_bind.proofs.Bodies.{knows_err}
use Rattle.trigger_bind.proofs.programs.know_names.Goals as goal

pub returns-in_err-bind_change-clause-known : goal.returns-in_err-bind_change-clause-known
returns-in_err-bind_change-clause-known c = λ rows_at db rows outer of.
    knows_err (faults (resolve_change db (record { scope = c.args.outer.now; rows = rows }) c.args.change.now)) c.in_err-bind_change.field-0.0 c.from_residual.result c.from_residual.ensures.1 (c.in_err-bind_change.ensures.named rows_at db rows outer of)

pub returns-clause-known : goal.returns-clause-known
returns-clause-known c = λ rows_at db rows outer of. ap faults (c.in_ok-bind_change.ensures.named rows_at db rows outer of)
