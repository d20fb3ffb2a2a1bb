use Rattle.std.proofs.Common.{◌≡◌, length}
use Rattle.tree_pack.specs.Freeing.{greatest_in}
use Rattle.tree_pack.proofs.freeing.greatest_below.Given as goal

abbrev pub invariant-pointers : goal.invariant-pointers
invariant-pointers l = record {
  value : greatest_in l.limit l.most l.left ≡ greatest_in l.limit 0 l.pointers;
}

abbrev pub decreases-pointers : goal.decreases-pointers
decreases-pointers l = length l.left
