use Rattle.tree_pack.proofs.CountLemmas.{cut_few, cut_fewer}
use Rattle.tree_pack.proofs.laws.parts_are_few.Goals as goal

pub returns-clause-few : goal.returns-clause-few
returns-clause-few c = cut_few

pub returns-clause-fewer : goal.returns-clause-fewer
returns-clause-fewer c = cut_fewer
