use Rattle.std.proofs.Common.{sym, arith}
use Rattle.record.proofs.VarintLemmas.{AreBytes-from_index}
use Rattle.tree_page.specs.Bytes.{header_parts}
use Rattle.tree_page.proofs.SaidPages.{front_within}
use Rattle.tree_page.proofs.FallingCells.{none_claimed, one_claimed, all_claimed}
use Rattle.tree_page.proofs.checking.lie_in_falling_order.Goals as goal

pub front_len-front-requires : goal.front_len-front-requires
front_len-front-requires c =
    let page = c.args.page.now in
    let within = front_within page c.args.start (header_parts c.args.header) (AreBytes-from_index page (λ i. omega (arith, c.type_inv.page i))) c.requires in
    omega (arith, within)

pub cells-init : goal.cells-init
cells-init c =
    let page = c.args.page.now in
    let fits = AreBytes-from_index page (λ i. omega (arith, c.type_inv.page i)) in
    none_claimed page c.args.start (header_parts c.args.header) c.front_len-front.result fits c.requires c.front_len-front.ensures

pub cells-preserved : goal.cells-preserved
cells-preserved c =
    one_claimed c.args.page.now c.args.start (header_parts c.args.header) c.front_len-front.result c.cells.low c.cells.index c.in-Some.from c.in-Some.to (omega (arith, c.cells-test.true)) c.in-Some.ensures.within.0
    (omega (arith, c.if-from-front.false)) (omega (arith, c.if-low-to.false)) (sym c.in-Some.ensures.value) c.cells.invariant

pub returns : goal.returns
returns c = λ falls.
    let page = c.args.page.now in
    let fits = AreBytes-from_index page (λ i. omega (arith, c.type_inv.page i)) in
    all_claimed page c.args.start (header_parts c.args.header) c.front_len-front.result c.cells.low c.cells.index fits c.requires (omega (arith, c.cells-test.false)) c.cells.invariant
