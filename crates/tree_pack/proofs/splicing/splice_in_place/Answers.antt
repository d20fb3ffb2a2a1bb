use Rattle.std.proofs.Common.{length, map, ◌≡◌, subst, sym, IfOk, IfSome, arith}
use Rattle.tree_page.specs.Node.{Say}
use Rattle.tree_pack.specs.Placing.{IsPlaced}
use Rattle.tree_pack.specs.Splicing.{SplicesOne}
use Rattle.tree_pack.proofs.SplicingLemmas.{spliced_one, no_cells, one_cell}
use Rattle.tree_pack.proofs.splicing.splice_in_place.Goals as goal

pub returns-in-len1-clause-placed : goal.returns-in-len1-clause-placed
returns-in-len1-clause-placed c =
    λ old new is usual within same last.
    let page = c.args.page.now in
    let all = spliced_one c.args.from c.args.count is.cells c.args.cells.now _ c.if-count-eq0.true c.in-len1.len_at_least c.in-len1.len_below in
    subst (λ cells. Say (length page) cells new → IfOk c.place_cell.result (λ answer. IfSome answer (λ written. IsPlaced page c.args.start cells new written.items))) (sym all)
    (c.place_cell.ensures.placed old new is usual.addressed usual.near (omega (arith, within)) same last)

pub returns-in_default-clause-placed : goal.returns-in_default-clause-placed
returns-in_default-clause-placed c =
    let same = c.if-count-cells.true in
    let count : length c.args.cells.now ≡ c.args.count = omega (arith, same) in
    subst (λ count. SplicesOne c.args.page.now c.args.start c.args.from count (map (λ cell. cell.now) c.args.cells.now) c.replace_cells.result) count c.replace_cells.ensures.replaced

pub returns-in-empty-clause-placed : goal.returns-in-empty-clause-placed
returns-in-empty-clause-placed c =
    let one = c.if-count-eq1.true in
    let count : 1 ≡ c.args.count = omega (arith, one) in
    subst (λ count. SplicesOne c.args.page.now c.args.start c.args.from count (map (λ cell. cell.now) c.args.cells.now) c.remove_cell.result) count
    (subst (λ cells. SplicesOne c.args.page.now c.args.start c.args.from 1 cells c.remove_cell.result) (sym (no_cells c.args.cells.now c.in-empty.len_below)) c.remove_cell.ensures.removed)

pub returns-in-len1-2-clause-placed : goal.returns-in-len1-2-clause-placed
returns-in-len1-2-clause-placed c =
    let one = c.if-count-eq1-2.true in
    let count : 1 ≡ c.args.count = omega (arith, one) in
    subst (λ count. SplicesOne c.args.page.now c.args.start c.args.from count (map (λ cell. cell.now) c.args.cells.now) c.exchange_cell.result) count
    (subst (λ cells. SplicesOne c.args.page.now c.args.start c.args.from 1 cells c.exchange_cell.result) (sym (one_cell c.args.cells.now _ c.in-len1.len_at_least c.in-len1.len_below)) c.exchange_cell.ensures.exchanged)
