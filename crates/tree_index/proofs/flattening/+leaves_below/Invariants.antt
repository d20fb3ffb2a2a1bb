use Rattle.tree_index.proofs.flattening.+leaves_below.Given as goal

abbrev pub decreases-leaves_below : goal.decreases-leaves_below
decreases-leaves_below g l = l.ways
