use Rattle.tree_table.proofs.runs.+changed_below.Given as goal

abbrev pub decreases-changed_below : goal.decreases-changed_below
decreases-changed_below g l = l.ways
