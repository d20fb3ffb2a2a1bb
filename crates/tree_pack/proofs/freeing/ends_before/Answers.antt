use Rattle.std.proofs.Common.{◌∙◌, arith}
use Rattle.tree_pack.proofs.FreeingLemmas.{found_ends}
use Rattle.tree_pack.proofs.freeing.ends_before.Goals as goal

pub returns : goal.returns
returns c =
    λ told node is.
    let ends = c.if-from-cell.false in
    let last = c.from-else-cell.ensures in
    found_ends c.args.page.now c.args.start node is c.args.place c.in-Some.cell c.args.pointer c.args.at (c.in-Some.ensures.found node is) (c.if-cell-from.false ∙ c.from.ensures) c.if-cell.false (omega (arith, ends, last))
