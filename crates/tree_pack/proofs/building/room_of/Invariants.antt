use Rattle.std.proofs.Common.{◌≡◌, ◌≤◌, ◌+◌, length, map}
use Rattle.tree_pack.specs.Parts.{total}
use Rattle.tree_pack.specs.Building.{cell_room}
use Rattle.tree_pack.proofs.building.room_of.Given as goal

abbrev pub invariant-cells : goal.invariant-cells
invariant-cells l = record {
  sum : l.room + total (map cell_room (map (λ cell. cell.now) l.left)) ≡ total (map cell_room (map (λ cell. cell.now) l.cells));
  within : l.room ≤ l.most;
}

abbrev pub decreases-cells : goal.decreases-cells
decreases-cells l = length l.left
