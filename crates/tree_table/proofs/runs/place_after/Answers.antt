use Rattle.std.proofs.Common.{rules, ◌<◌, ◌+◌, [], pos, sym, subst, arith}
use Rattle.tree_page.specs.Node.{Rows, IsNode}
use Rattle.tree_page.specs.Reading.{Place}
use Rattle.tree_table.proofs.runs.place_after.Goals as goal

pub returns-in_err-page-clause-found : goal.returns-in_err-page-clause-found
returns-in_err-page-clause-found c = λ said is. absurd (c.in_err-page.ensures.only (Rows said) is)

pub leaps-init : goal.leaps-init
leaps-init c = (omega arith, λ said is. (let long = c.len-high.ensures (Rows said) is in omega (arith, long)))

pub returns-in_err-found-clause-found : goal.returns-in_err-found-clause-found
returns-in_err-found-clause-found c = λ said is.
    (let here = subst (λ (page : Place). IsNode page.bytes page.start (Rows said)) (sym c.in_ok-page.ensures.place) is in
    let high = c.leaps.invariant.1 said here in
    let upper : c.leaps.low + 1 + c.min.result < c.leaps.high = search rules in
    absurd (c.in_err-found.ensures.only said (pos 0, record { size = 0; bytes = [] }) here (omega (arith, upper, high))))
