-- the zeros but those that are left were written
use Rattle.std.proofs.Common.{◌≡◌, ◌≤◌, ◌-◌, ◌++◌, replicate}
use Rattle.tree_pack.proofs.building.put_zeros.Given as goal

abbrev pub invariant-rounds : goal.invariant-rounds
invariant-rounds l = (l.left ≤ l.count) × (l.out.items ≡ l.initial.out.items ++ replicate (l.count - l.left) 0)

abbrev pub decreases-rounds : goal.decreases-rounds
decreases-rounds l = l.left
