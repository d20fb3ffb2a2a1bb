use Rattle.tree_index.proofs.Staying.{trees_stay}
use Rattle.tree_index.proofs.laws.index_trees_stay.Goals as goal

pub returns : goal.returns
returns c = trees_stay
