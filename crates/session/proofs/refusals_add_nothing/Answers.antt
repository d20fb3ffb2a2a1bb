use Rattle.session.proofs.Refusals.{refusals}
use Rattle.session.proofs.refusals_add_nothing.Goals as goal

pub returns : goal.returns
returns c = refusals
