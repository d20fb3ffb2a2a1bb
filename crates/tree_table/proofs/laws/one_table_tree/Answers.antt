use Rattle.tree_table.proofs.OneTrees.{one_table_tree}
use Rattle.tree_table.proofs.laws.one_table_tree.Goals as goal

pub returns : goal.returns
returns c = one_table_tree
