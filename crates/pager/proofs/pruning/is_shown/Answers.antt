use Rattle.std.proofs.Common.{◌≡◌, ◌≤◌, sym, subst, ◌∙◌, ap, arith}
use Rattle.std.specs.Cmp.Lexicographic.{pointwise}
use Rattle.std.specs.Prelude.{nat_eq}
use Rattle.wal.specs.LogState.{size_of}
use Rattle.pager.specs.Views.{view_at}
use Rattle.pager.proofs.NewPages.{read_shown}
use Rattle.pager.proofs.PageReads.{refused_on}
use Rattle.pager.proofs.pruning.is_shown.Goals as goal

pub returns-in_err-fill-clause-refused : goal.returns-in_err-fill-clause-refused
returns-in_err-fill-clause-refused g c told within all above =
    let below : c.args.page.now.number ≤ size_of c.args.snapshot = omega (arith, c.if-page-size.false, c.size.ensures) in
    let there = all c.args.page.now.number above below in
    refused_on c.from_residual.result _ c.from_residual.ensures.1 (c.in_err-fill.ensures.there there.0 told within (record { first = above; last = below; has = there.1 }))

pub returns-clause-shown : goal.returns-clause-shown
returns-clause-shown g c told within =
    read_shown (view_at c.args.log.now c.args.snapshot) c.args.page.now c.fill.new.buffer.items c.eq.result (λ one. omega (arith, one, c.if-page-eq1.false)) c.in_ok-fill.ensures.within.0 c.in_ok-fill.ensures.within.1
    (c.in_ok-fill.ensures.read told within)
    (c.eq.ensures ∙ ap (λ xs. pointwise nat_eq xs c.as_slice-2.result.now) c.as_slice.ensures.value ∙ ap (pointwise nat_eq c.fill.new.buffer.items) c.as_slice-2.ensures.value)
