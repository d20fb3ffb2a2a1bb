use Rattle.std.proofs.Common.{◌≡◌, ◌<◌, ◌+◌, ◌∷◌, [], length, ap, ◌∙◌, arith}
use Rattle.std.proofs.lemmas.List.{length-append}
use Rattle.tree_page.specs.Reading.{count_of}
use Rattle.tree_pack.proofs.SplicingLemmas.{count_is, cell_on, cells_end}
use Rattle.tree_pack.proofs.splicing.append_cells.Goals as goal

pub returns-in_err-cell-clause-put : goal.returns-in_err-cell-clause-put
returns-in_err-cell-clause-put c =
    λ node is le within.
    let lt : c.cells.index < count_of node = omega (arith, c.cells-test.true, within, count_is c.args.page.now.bytes c.args.page.now.start node is) in
    absurd (c.in_err-cell.ensures.only node is lt)

pub cells-preserved : goal.cells-preserved
cells-preserved c =
    let i = c.cells.invariant in
    let more : length c.push_reserved.new.self.items ≡ length c.cells.out.items + 1 = ap length c.push_reserved.ensures.items ∙ length-append c.cells.out.items (c.in_ok-cell.field-0 ∷ []) in
    let same = c.push_reserved.ensures.capacity in
    record {
      put = λ node is le within.
          let put = i.put node is le within in
          let near = put.0 in
          let lt : c.cells.index < count_of node = omega (arith, c.cells-test.true, within, count_is c.args.page.now.bytes c.args.page.now.start node is) in
          let cell = c.in_ok-cell.ensures.only node is lt in (
            omega (arith, near),
            omega (arith, c.cells-test.true),
            cell_on c.args.out.now.items c.cells.out.items c.push_reserved.new.self.items c.in_ok-cell.field-0 is.cells c.args.from c.cells.index c.push_reserved.ensures.items near (omega (arith, c.cells-test.true, within)) cell put.2,
          );
      count = omega (arith, i.count, more, c.cells-test.true);
      room = omega (arith, i.room, more, same, c.cells-test.true);
      capacity = omega (arith, i.capacity, same);
    }

pub returns-clause-put : goal.returns-clause-put
returns-clause-put c =
    λ node is le within.
    let put = c.cells.invariant.put node is le within in
    let up = put.1 in
    cells_end c.args.out.now.items c.cells.out.items is.cells c.args.from c.cells.index c.args.to (omega (arith, up, c.cells-test.false)) put.2
