use Rattle.std.proofs.Common.{◌≤◌, ◌-◌, ◌+◌, length, refl, arith}
use Rattle.tree_pack.specs.Replacing.{written_over}
use Rattle.tree_pack.proofs.RewritingLemmas.{payload_put}
use Rattle.tree_pack.proofs.rewriting.payload_place.Goals as goal

pub returns-clause-rewritten : goal.returns-clause-rewritten
returns-clause-rewritten c = λ said is there.
    (let page = c.args.page.now in
    let payload = c.args.payload.now in
    let at = c.in_ok-at.at in
    let short : length payload ≤ length page - 35 = (let a = c.if-saturating_sub-payload.false in let b = c.saturating_sub.ensures in omega (arith, a, b)) in
    let fits : at + length payload ≤ length page = (let a = c.if-page-at.false in let b = c.if-page-at-2.false in omega (arith, a, b)) in
    payload_put page c.args.start said is c.args.place there payload at (c.in_ok-at.ensures said is there) short (written_over at payload page) fits refl)
