use Rattle.std.proofs.Common.{length}
use Rattle.std.specs.Bool.{⊤}
use Rattle.tree_pack.proofs.freeing.place_of.Given as goal

abbrev pub invariant-pointers : goal.invariant-pointers
invariant-pointers l = ⊤

abbrev pub decreases-pointers : goal.decreases-pointers
decreases-pointers l = length l.left
