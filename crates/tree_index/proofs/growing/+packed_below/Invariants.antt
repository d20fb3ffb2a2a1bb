use Rattle.tree_index.proofs.growing.+packed_below.Given as goal

abbrev pub decreases-packed_below : goal.decreases-packed_below
decreases-packed_below g l = l.ways
