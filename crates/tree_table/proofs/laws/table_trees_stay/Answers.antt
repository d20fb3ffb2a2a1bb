use Rattle.tree_table.proofs.KeptTrees.{trees_stay}
use Rattle.tree_table.proofs.laws.table_trees_stay.Goals as goal

pub returns : goal.returns
returns c = trees_stay
