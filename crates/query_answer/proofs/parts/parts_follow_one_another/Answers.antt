use Rattle.query_answer.proofs.InTurn.{follow_one_another}
use Rattle.query_answer.proofs.parts.parts_follow_one_another.Goals as goal

pub returns : goal.returns
returns c = follow_one_another
