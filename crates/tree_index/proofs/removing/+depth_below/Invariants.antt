use Rattle.tree_index.proofs.removing.+depth_below.Given as goal

abbrev pub decreases-depth_below : goal.decreases-depth_below
decreases-depth_below g l = l.ways
