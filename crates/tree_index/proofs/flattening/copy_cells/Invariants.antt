use Rattle.std.proofs.Common.{◌≡◌, ◌++◌, map, take}
use Rattle.tree_page.specs.Node.{Node, IsNode}
use Rattle.tree_index.proofs.flattening.copy_cells.Given as goal

abbrev pub invariant-cells : goal.invariant-cells
invariant-cells l = (node : Node) (is : IsNode l.page.bytes l.page.start node)
    → map (λ cell. cell.items) l.out.items ≡ map (λ cell. cell.items) l.initial.out.items ++ take l.place is.cells
