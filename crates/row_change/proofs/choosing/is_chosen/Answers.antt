use Rattle.row_change.proofs.Chosen.{no_disk}
use Rattle.row_change.proofs.choosing.is_chosen.Goals as goal

pub returns-in_err-holds-clause-not_disk : goal.returns-in_err-holds-clause-not_disk
returns-in_err-holds-clause-not_disk c =
    no_disk c.from_residual.result c.args.condition.now _ _ c.in_err-holds.field-0.0 c.env_over-env.ensures c.from_residual.ensures.1 c.in_err-holds.ensures
