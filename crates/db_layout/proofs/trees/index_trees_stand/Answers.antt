use Rattle.db_layout.proofs.Sharing.{index_trees_stand}
use Rattle.db_layout.proofs.trees.index_trees_stand.Goals as goal

pub returns : goal.returns
returns c = index_trees_stand
