use Rattle.std.proofs.Common.{◌≡◌, ◌≤◌, ◌<◌, ◌-◌, ◌+◌, length, get_or, subst, rules, arith}
use Rattle.std.proofs.lemmas.Bool.{leb-false, leb-true}
use Rattle.wal.specs.declared.pages.PageImage.{PageImage}
use Rattle.pager.proofs.Searching.{all_below, ends_far}
use Rattle.pager.proofs.saved.reaches.Goals as goal

pub returns-in-len1-up-clause-reached : goal.returns-in-len1-up-clause-reached
returns-in-len1-up-clause-reached c holds =
    let one : (length c.args.pages.now - 1) + 1 ≡ length c.args.pages.now = (let some = c.in-len1-up.len_at_least in omega (arith, some)) in
    let is : c.last-item.result ≡ get_or c.args.pages.now (length c.args.pages.now - 1) c.last-item.result = search rules in
    ends_far c.args.number c.args.pages.now (length c.args.pages.now - 1) c.last-item.result one (subst (λ (p : PageImage). c.args.number ≤ p.number) is (leb-true c.args.number c.last-item.result.number holds))

pub returns-in-len1-up-clause-below : goal.returns-in-len1-up-clause-below
returns-in-len1-up-clause-below c rises fails =
    let one : (length c.args.pages.now - 1) + 1 ≡ length c.args.pages.now = (let some = c.in-len1-up.len_at_least in omega (arith, some)) in
    let is : c.last-item.result ≡ get_or c.args.pages.now (length c.args.pages.now - 1) c.last-item.result = search rules in
    all_below c.args.number 0 c.args.pages.now (length c.args.pages.now - 1) c.last-item.result one rises (subst (λ (p : PageImage). p.number < c.args.number) is (leb-false c.args.number c.last-item.result.number fails))
