use Rattle.pages.proofs.Moving.{in_sequence}
use Rattle.pages.proofs.laws.moves_follow.Goals as goal

pub returns : goal.returns
returns c = in_sequence
