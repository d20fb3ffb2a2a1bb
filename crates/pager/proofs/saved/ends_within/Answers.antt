use Rattle.std.proofs.Common.{◌≡◌, ◌≤◌, ◌-◌, ◌+◌, length, sym, subst, arith}
use Rattle.std.proofs.lemmas.Bool.{le-leb, leb-true}
use Rattle.wal.specs.declared.pages.PageImage.{PageImage}
use Rattle.pager.proofs.Ends.{ends_from, ends_some, ends_to}
use Rattle.pager.proofs.saved.ends_within.Goals as goal

pub returns-then-count-eq0-clause-past : goal.returns-then-count-eq0-clause-past
returns-then-count-eq0-clause-past c ends =
    let some = ends_some c.args.size c.args.pages.now.items ends in
    let none = c.if-count-eq0.true in
    let count = c.len-count.ensures.count in
    absurd (omega (arith, some, none, count))

pub returns-clause-within : goal.returns-clause-within
returns-clause-within c holds =
    let last = c.at.result.now in
    let some = c.if-count-eq0.false in
    let count = c.len-count.ensures.count in
    let one : (c.len-count.result - 1) + 1 ≡ length c.args.pages.now.items = omega (arith, some, count) in
    ends_from c.args.size c.args.pages.now.items (c.len-count.result - 1) last one (subst (λ (p : PageImage). p.number ≤ c.args.size) c.at.ensures (leb-true last.number c.args.size holds))

pub returns-clause-past : goal.returns-clause-past
returns-clause-past c ends =
    let last = c.at.result.now in
    let some = c.if-count-eq0.false in
    let count = c.len-count.ensures.count in
    let one : (c.len-count.result - 1) + 1 ≡ length c.args.pages.now.items = omega (arith, some, count) in
    le-leb last.number c.args.size (subst (λ (p : PageImage). p.number ≤ c.args.size) (sym c.at.ensures) (ends_to c.args.size c.args.pages.now.items (c.len-count.result - 1) last one ends))
