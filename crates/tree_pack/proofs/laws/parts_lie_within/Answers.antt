use Rattle.tree_pack.proofs.RowLemmas.{cut_within}
use Rattle.tree_pack.proofs.laws.parts_lie_within.Goals as goal

pub returns : goal.returns
returns c = cut_within
