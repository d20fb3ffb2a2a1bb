use Rattle.std.proofs.Common.{arith}
use Rattle.db_load.proofs.WholePages.{one_read, page_refused, stays_stopped}
use Rattle.db_load.proofs.whole.check_whole.Goals as goal

pub returns-in_err-check_page-clause-only : goal.returns-in_err-check_page-clause-only
returns-in_err-check_page-clause-only g c = λ map page told sized whole.
    (let p = g.P.Pages in
    page_refused p.below p.tells p.limits p.map p.count p.failures c.args.pages.now c.numbers.pages c.check_page.new.pages c.numbers.place c.numbers.invariant map page c.in_err-check_page.field-0.0 c.from_residual.result
    told (omega (arith, c.numbers-test.true, sized)) whole c.in_err-check_page.ensures.only c.from_residual.ensures.1)

pub returns-in_err-check_page-clause-stays : goal.returns-in_err-check_page-clause-stays
returns-in_err-check_page-clause-stays g c =
    let p = g.P.Pages in
    stays_stopped p.below p.tells p.limits p.map p.count p.failures c.args.pages.now c.numbers.pages c.check_page.new.pages c.numbers.place c.numbers.invariant c.in_err-check_page.field-0.0 c.from_residual.result
    c.in_err-check_page.ensures.stays c.from_residual.ensures.1

pub numbers-preserved : goal.numbers-preserved
numbers-preserved g c =
    let p = g.P.Pages in
    one_read p.below p.tells p.limits p.map p.count p.failures c.args.pages.now c.numbers.pages c.check_page.new.pages c.numbers.place c.numbers.invariant c.in_ok-check_page.ensures.stays c.in_ok-check_page.ensures.found

pub returns-clause-found : goal.returns-clause-found
returns-clause-found g c = λ map page told sized number has.
    c.numbers.invariant.each map page told number has.first (omega (arith, has.last, sized, c.numbers-test.false))
