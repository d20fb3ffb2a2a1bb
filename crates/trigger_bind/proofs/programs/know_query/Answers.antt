use Rattle.std.proofs.Common.{ap}
use Rattle.query_names.specs.Checked.{faults}
use Rattle.query_names.specs.Queries.{resolve_query}
use Rattle.query_names.specs.Views.{look_up}
use Rattle.trigger_bind.proofs.Bodies.{knows_err}
use Rattle.trigger_bind.proofs.programs.know_query.Goals as goal

pub returns-in_err-bind_reading_beside-clause-known :
    goal.returns-in_err-bind_reading_beside-clause-known
returns-in_err-bind_reading_beside-clause-known c = λ rows_at db rows outer of.
    knows_err (faults (resolve_query (look_up db) c.args.outer.now c.args.query.now)) c.in_err-bind_reading_beside.field-0.0 c.from_residual.result c.from_residual.ensures.1
    (c.in_err-bind_reading_beside.ensures.named rows_at db outer of.lists)

pub returns-clause-known : goal.returns-clause-known
returns-clause-known c = λ rows_at db rows outer of. ap faults (c.in_ok-bind_reading_beside.ensures.named rows_at db outer of.lists)
