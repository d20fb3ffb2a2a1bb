use Rattle.std.proofs.Common.{◌∙◌}
use Rattle.tree_pack.proofs.DividingLemmas.{last_is}
use Rattle.tree_pack.proofs.spreading.last_key.Goals as goal

pub returns-in-Some : goal.returns-in-Some
returns-in-Some c =
    let item = c.in-Some.ensures.item in
    c.row_key.ensures ∙ last_is c.args.cells.now c.in-Some.cell.now item.3.0 (item.3.1 c.in-Some.cell.now)
