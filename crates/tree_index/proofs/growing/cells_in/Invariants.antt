use Rattle.std.proofs.Common.{◌≡◌, map, take}
use Rattle.tree_index.proofs.growing.cells_in.Given as goal

abbrev pub invariant-cells : goal.invariant-cells
invariant-cells l = map (λ cell. cell.now) l.lent.items ≡ map (λ cell. cell.items) (take l.cell-index l.cells)
