use Rattle.std.proofs.Common.{◌≡◌, ◌≤◌, ◌<◌, ◌+◌, ◌-◌, ◌⊎◌, length, take}
use Rattle.tree_pack.specs.Parts.{total}
use Rattle.tree_pack.proofs.Totals.{rooms}
use Rattle.tree_pack.proofs.cutting.part_len.Given as goal

abbrev pub invariant-cells : goal.invariant-cells
invariant-cells l = record {
  some : 1 ≤ l.count;
  within : l.count ≤ l.most;
  most_is : l.most + l.up + 1 ≡ length l.cells;
  sum_is : l.sum ≡ total (take l.count (rooms l.cells));
  fits : (l.count ≡ 1) ⊎ (l.sum ≤ l.room);
  least : (l.count ≡ 1) ⊎ (total (take (l.count - 1) (rooms l.cells)) < l.fn.goal);
}

abbrev pub decreases-cells : goal.decreases-cells
decreases-cells l = l.most - l.count
