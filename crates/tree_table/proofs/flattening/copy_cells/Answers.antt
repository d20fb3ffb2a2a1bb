use Rattle.std.proofs.Common.{◌<◌, ◌∙◌, arith}
use Rattle.tree_page.specs.Reading.{count_of}
use Rattle.tree_pack.proofs.SplicingLemmas.{count_is}
use Rattle.tree_table.proofs.KidCells.{one_copied, all_copied}
use Rattle.tree_table.proofs.flattening.copy_cells.Goals as goal

pub returns-in_err-cell-clause-copied : goal.returns-in_err-cell-clause-copied
returns-in_err-cell-clause-copied c = λ node is.
    (let lt : c.cells.place < count_of node = omega (arith, c.cells-test.true, c.len-len.ensures node is) in
    absurd (c.in_err-cell.ensures.only node is lt))

pub cells-preserved : goal.cells-preserved
cells-preserved c = λ node is.
    (let lt : c.cells.place < count_of node = omega (arith, c.cells-test.true, c.len-len.ensures node is) in
    let many = count_is c.args.page.now.bytes c.args.page.now.start node is in
    one_copied c.args.out.now.items c.cells.out.items c.push.new.self.items c.in_ok-cell-2.cell is.cells c.cells.place c.in_ok-push.ensures.items (omega (arith, lt, many))
    (c.in_ok-cell-2.ensures.items_if_clones_equal (λ x y same. same) ∙ c.in_ok-cell.ensures.only node is lt) (c.cells.invariant node is))

pub returns-clause-copied : goal.returns-clause-copied
returns-clause-copied c = λ node is.
    (let many = count_is c.args.page.now.bytes c.args.page.now.start node is in
    let counted = c.len-len.ensures node is in
    all_copied c.args.out.now.items c.cells.out.items is.cells c.cells.place (omega (arith, c.cells-test.false, many, counted)) (c.cells.invariant node is))
