use Rattle.tree_index.proofs.flattening.+build_over.Given as goal

abbrev pub decreases-build_over : goal.decreases-build_over
decreases-build_over g l = l.levels
