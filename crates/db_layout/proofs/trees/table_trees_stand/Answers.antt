use Rattle.db_layout.proofs.Sharing.{trees_stand}
use Rattle.db_layout.proofs.trees.table_trees_stand.Goals as goal

pub returns : goal.returns
returns c = trees_stand
