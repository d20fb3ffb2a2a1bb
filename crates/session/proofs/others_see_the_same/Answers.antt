use Rattle.session.proofs.Besides.{others_stay_beside}
use Rattle.session.proofs.others_see_the_same.Goals as goal

pub returns : goal.returns
returns c = others_stay_beside
