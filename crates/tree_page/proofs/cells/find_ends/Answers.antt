use Rattle.std.proofs.Common.{◌≤◌, length, sym, arith}
use Rattle.tree_page.specs.Bytes.{header_parts}
use Rattle.tree_page.proofs.CellLemmas.{cell_shortens}
use Rattle.tree_page.proofs.SaidPages.{tail_shortens}
use Rattle.tree_page.proofs.cells.find_ends.Goals as goal

pub overflow_sub-result : goal.overflow_sub-result
overflow_sub-result c = tail_shortens c.args.page.now c.args.start (header_parts c.args.header) c.args.index c.in_ok-tail.tail.now (sym c.in_ok-tail.ensures)

pub overflow_sub-result-2 : goal.overflow_sub-result-2
overflow_sub-result-2 c =
    let page = c.args.page.now in
    let tail : length c.in_ok-tail.tail.now ≤ length page = tail_shortens page c.args.start (header_parts c.args.header) c.args.index c.in_ok-tail.tail.now (sym c.in_ok-tail.ensures) in
    omega (arith, tail, cell_shortens c.args.header.kind (length page) c.in_ok-tail.tail.now c.in_ok-rest.rest.now (sym c.in_ok-rest.ensures))

pub returns-clause-within : goal.returns-clause-within
returns-clause-within c =
    let rest = cell_shortens c.args.header.kind (length c.args.page.now) c.in_ok-tail.tail.now c.in_ok-rest.rest.now (sym c.in_ok-rest.ensures) in (omega (arith, rest), omega arith)
