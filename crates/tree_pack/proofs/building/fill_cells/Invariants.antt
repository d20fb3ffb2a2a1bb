use Rattle.std.proofs.Common.{◌≡◌, ◌≤◌, ◌++◌, length, map, drop, reverse}
use Rattle.std.specs.List.{flat_map}
use Rattle.tree_pack.specs.Parts.{total}
use Rattle.tree_pack.proofs.building.fill_cells.Given as goal

abbrev pub invariant-cells : goal.invariant-cells
invariant-cells l = record {
  sum : total (map length (map (λ cell. cell.now) l.left)) ≡ l.end;
  within : l.end ≤ length l.room;
  so_far : flat_map (λ cell. cell) (reverse (map (λ cell. cell.now) l.left)) ++ drop l.end l.room ≡ flat_map (λ cell. cell) (reverse (map (λ cell. cell.now) l.cells));
}

abbrev pub decreases-cells : goal.decreases-cells
decreases-cells l = length l.left
