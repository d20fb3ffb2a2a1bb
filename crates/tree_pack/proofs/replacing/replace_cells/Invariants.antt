-- as many cells as were looked at stand in their places
use Rattle.std.proofs.Common.{◌+◌, ◌≤◌, length, map}
use Rattle.tree_page.specs.Node.{Node, IsNode}
use Rattle.tree_pack.proofs.ReplacingLemmas.{HasCells, some_of}
use Rattle.tree_pack.proofs.replacing.replace_cells.Given as goal

abbrev pub invariant-cells : goal.invariant-cells
invariant-cells l = (node : Node) (is : IsNode l.page l.start node) → l.from + length l.cells ≤ length is.cells
    → (l.index ≤ length l.cells) × HasCells l.page l.start node is (some_of l.from l.index (map (λ cell. cell.now) l.cells) is.cells) l.out.items
