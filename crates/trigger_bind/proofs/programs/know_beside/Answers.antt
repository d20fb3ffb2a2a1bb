use Rattle.trigger.specs.Binding.{faults_after}
use Rattle.trigger_bind.proofs.Bodies.{knows_err, knows_memory}
use Rattle.trigger_bind.proofs.programs.know_beside.Goals as goal

pub returns-in_err-know_names-clause-known : goal.returns-in_err-know_names-clause-known
returns-in_err-know_names-clause-known c = λ rows_at db rows outer of.
    knows_err (faults_after 0 db (record { scope = c.args.outer.now; rows = rows }) c.args.change.now) c.in_err-know_names.field-0.0 c.from_residual.result c.from_residual.ensures.1 (c.in_err-know_names.ensures.known rows_at db rows outer of)

pub returns-clause-known : goal.returns-clause-known
returns-clause-known c = λ rows_at db rows outer of.
    knows_memory (faults_after 0 db (record { scope = c.args.outer.now; rows = rows }) c.args.change.now) c.note_set_off.result (c.in_ok-know_names.ensures.known rows_at db rows outer of) c.note_set_off.ensures.refused
