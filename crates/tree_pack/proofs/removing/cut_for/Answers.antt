use Rattle.std.proofs.Common.{length, ap, arith}
use Rattle.tree_pack.proofs.RemovingLemmas.{heads_on, is_cut}
use Rattle.tree_pack.proofs.removing.cut_for.Goals as goal

pub returns-clause-on_page : goal.returns-clause-on_page
returns-clause-on_page c =
    let cell = c.in_ok-cell.cell in
    let on = c.in_ok-cell.ensures.on_page in
    let behind = on.behind in
    let upto = on.upto in
    let heads = heads_on c.args.page.now c.args.start cell c.in_ok-freed.freed on c.if-cell.false c.if-page-cell.false c.in_ok-freed.ensures.freed in
    record { behind = omega (arith, behind, upto); before = on.before; within = on.within; head = ap length c.header_of.ensures; block = heads.0; chain = heads.1 }

pub returns-clause-cut : goal.returns-clause-cut
returns-clause-cut c =
    λ old new is usual within same last say.
    let cell = c.in_ok-cell.cell in
    let on = c.in_ok-cell.ensures.on_page in
    let found = c.in_ok-cell.ensures.found old is in
    let some = c.if-cell-lt2.false in
    let few = on.few in
    let count = found.count_is in
    let inside = c.if-page-cell.false in (
      is_cut c.args.page.now c.args.start old new is c.args.place cell _ c.in_ok-freed.freed _ found on (omega (arith, some, few)) c.header_of.ensures c.in_ok-freed.ensures.freed (c.in_ok-freed.ensures.clear old is c.args.place found) (omega (arith, inside)) same last say,
      omega (arith, some, count),
    )
