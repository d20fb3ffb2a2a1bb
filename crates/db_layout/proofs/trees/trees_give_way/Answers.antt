use Rattle.db_layout.proofs.Sharing.{replaces_trees}
use Rattle.db_layout.proofs.trees.trees_give_way.Goals as goal

pub returns : goal.returns
returns c = replaces_trees
