use Rattle.std.proofs.Common.{◌≤◌, ◌↔◌, length, map}
use Rattle.std.specs.List.{AllByRecursion}
use Rattle.tree_pack.specs.Building.{cell_room}
use Rattle.tree_pack.proofs.spreading.are_within.Given as goal

abbrev pub invariant-cells : goal.invariant-cells
invariant-cells l = AllByRecursion (λ cell. cell_room cell ≤ l.most) (map (λ cell. cell.now) l.cells) ↔ AllByRecursion (λ cell. cell_room cell ≤ l.most) (map (λ cell. cell.now) l.left)

abbrev pub decreases-cells : goal.decreases-cells
decreases-cells l = length l.left
