use Rattle.tree_index.proofs.joining.+united.Given as goal

abbrev pub decreases-united : goal.decreases-united
decreases-united g l = l.depth
