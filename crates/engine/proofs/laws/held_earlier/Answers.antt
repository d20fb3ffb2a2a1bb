use Rattle.engine.proofs.Crashed.{all_hold_earlier}
use Rattle.engine.proofs.laws.held_earlier.Goals as goal

pub returns : goal.returns
returns c = all_hold_earlier
