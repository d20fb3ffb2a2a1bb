use Rattle.tree_index.proofs.scanning.+batch_below.Given as goal

abbrev pub decreases-batch_below : goal.decreases-batch_below
decreases-batch_below g l = l.ways
