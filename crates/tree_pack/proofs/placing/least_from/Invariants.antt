use Rattle.std.proofs.Common.{◌≡◌, length}
use Rattle.tree_pack.specs.Placing.{least_in}
use Rattle.tree_pack.proofs.placing.least_from.Given as goal

abbrev pub invariant-pointers : goal.invariant-pointers
invariant-pointers l = record {
  value : least_in l.least l.left ≡ least_in l.first l.others;
}

abbrev pub decreases-pointers : goal.decreases-pointers
decreases-pointers l = length l.left
