use Rattle.tree_index.proofs.removing.+removed_below.Given as goal

abbrev pub decreases-removed_below : goal.decreases-removed_below
decreases-removed_below g l = l.depth
