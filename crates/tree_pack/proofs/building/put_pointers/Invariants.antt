use Rattle.std.proofs.Common.{◌≡◌, ◌≤◌, ◌+◌, ◌*◌, ◌^◌, ◌++◌, length, map}
use Rattle.std.specs.Prelude.{vec_capacity}
use Rattle.std.specs.List.{flat_map}
use Rattle.tree_page.specs.Cells.{pointer}
use Rattle.tree_pack.specs.Parts.{total}
use Rattle.tree_pack.specs.Building.{spans_below}
use Rattle.tree_pack.proofs.BuildingLemmas.{AreSome}
use Rattle.tree_pack.proofs.building.put_pointers.Given as goal

abbrev pub invariant-cells : goal.invariant-cells
invariant-cells l = record {
  so_far : l.out.items ++ flat_map pointer (spans_below l.offset (map (λ cell. cell.now) l.left)) ≡ l.initial.out.items ++ flat_map pointer (spans_below l.end (map (λ cell. cell.now) l.cells));
  room : total (map length (map (λ cell. cell.now) l.left)) ≤ l.offset;
  near : l.offset ≤ 2 ^ 16;
  some : AreSome (map (λ cell. cell.now) l.left);
  reserved : length l.out.items + 2 * length l.left ≤ vec_capacity l.out;
}

abbrev pub decreases-cells : goal.decreases-cells
decreases-cells l = length l.left
