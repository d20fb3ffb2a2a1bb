use Rattle.std.proofs.Common.{sym, length}
use Rattle.tree_page.proofs.CellLemmas.{cell_shortens}
use Rattle.tree_page.proofs.cells.find_cell.Goals as goal

pub slice_bounds-result-count : goal.slice_bounds-result-count
slice_bounds-result-count c = cell_shortens c.args.header.kind (length c.args.page.now) c.in_ok-tail.tail.now c.in_ok-rest.rest.now (sym c.in_ok-rest.ensures)
