use Rattle.std.proofs.Common.{◌≡◌, ◌≤◌, ◌+◌, ◌-◌, ◌++◌, length, map, take, drop}
use Rattle.std.specs.Prelude.{vec_capacity}
use Rattle.tree_page.specs.Node.{Node, IsNode}
use Rattle.tree_pack.proofs.splicing.append_cells.Given as goal

abbrev pub invariant-cells : goal.invariant-cells
invariant-cells l = record {
  put : (node : Node) (is : IsNode l.page.bytes l.page.start node) → l.from ≤ l.to → l.to ≤ length is.cells
      → (l.from ≤ l.index) × (l.index ≤ l.to) × (map (λ cell. cell.now) l.out.items ≡ map (λ cell. cell.now) l.initial.out.items ++ take (l.index - l.from) (drop l.from is.cells));
  count : length l.out.items + (l.to - l.index) ≡ length l.initial.out.items + (l.to - l.from);
  room : length l.out.items + (l.to - l.index) ≤ vec_capacity l.out;
  capacity : vec_capacity l.initial.out ≤ vec_capacity l.out;
}

abbrev pub decreases-cells : goal.decreases-cells
decreases-cells l = l.to - l.index
