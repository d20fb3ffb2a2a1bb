use Rattle.std.proofs.Common.{◌≡◌, ◌++◌, length, map}
use Rattle.tree_store.specs.Storing.{cells_over}
use Rattle.tree_store.proofs.storing.fan_cells.Given as goal

abbrev pub invariant-cells : goal.invariant-cells
invariant-cells l =
    map (λ cell. cell.items) l.cells.items ++ cells_over l.left (map (λ piece. piece.divider.items) l.rest) ≡ cells_over l.numbers (map (λ piece. piece.divider.items) l.pieces)

abbrev pub decreases-cells : goal.decreases-cells
decreases-cells l = length l.rest
