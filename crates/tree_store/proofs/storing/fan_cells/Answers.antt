use Rattle.std.proofs.Common.{map}
use Rattle.tree_store.specs.Storing.{cells_over}
use Rattle.tree_store.proofs.CellsOver.{no_cells}
use Rattle.tree_store.proofs.storing.fan_cells.Goals as goal

pub returns-clause-are : goal.returns-clause-are
returns-clause-are c =
    no_cells (λ piece. piece.divider.items) (map (λ cell. cell.items) c.cells.cells.items) c.cells.left.now c.cells.rest.now (cells_over c.args.numbers.now (map (λ piece. piece.divider.items) c.args.pieces.now)) c.in_default.ensures.cases c.cells.invariant
