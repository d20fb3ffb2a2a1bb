use Rattle.std.proofs.Common.{◌≡◌, ◌∙◌, ◌-◌, ℕ, Ok, Err, sym, subst, ap, arith}
use Rattle.std.specs.Prelude.{max}
use Rattle.sqlval.specs.declared.fault.Fault.TheVariants.{Damaged}
use Rattle.sqlval.specs.declared.fault.Damage.TheVariants as Damage
use Rattle.tree_check.specs.Exact.{Checks}
use Rattle.tree_check.specs.Tails.{IsChainFrom}
use Rattle.tree_check.proofs.Links.{link_then, link_stops, chain_ends, chain_goes_on}
use Rattle.tree_check.proofs.Running.{goes_on, ends}
use Rattle.tree_check.proofs.chains.check_chain.Goals as goal

pub returns-in_err-page-clause-checked : goal.returns-in_err-page-clause-checked
returns-in_err-page-clause-checked g c =
    let p = g.P.Pages in
    ends p.below p.tells p.limits p.map p.count p.failures c.args.pages.now c.links.pages c.args.marks.now.items c.links.marks.items _ _ c.links.invariant c.check_link.new.marks.items c.from_residual.result
    (λ map size told can. link_stops map size c.links.page c.links.left _ c.check_link.new.marks.items _ c.in_err-page.field-0.0 c.from_residual.result c.links-test.true (c.in_err-page.ensures.checked map size told can) c.from_residual.ensures.1)

pub links-preserved : goal.links-preserved
links-preserved g c =
    let p = g.P.Pages in
    goes_on p.below p.tells p.limits p.map p.count p.failures c.args.pages.now c.links.pages c.args.marks.now.items c.links.marks.items _ _ c.links.invariant
    (Ok c.in_ok-page.page) c.check_link.new.pages c.check_link.new.marks.items _ c.in_ok-page.ensures.stays c.in_ok-page.ensures.long
    (λ map size told can after result rest. (
    let kept = c.links.invariant.stays.kept in
    let size_is = ap (λ k. (p.limits k).page) (sym kept) ∙ told.size_is in
    let room : c.max-room.result ≡ max (size - 4) 1 = c.max-room.ensures ∙ ap (λ (n : ℕ). max n 1) (c.saturating_sub.ensures ∙ ap (λ (n : ℕ). n - 4) (c.page_size.ensures ∙ size_is)) in
    link_then map size c.links.page c.in_ok-page.page c.links.left c.max-room.result _ _ can c.links-test.true room (c.in_ok-page.ensures.checked map size told can) after result
    (subst (λ (n : ℕ). Checks (IsChainFrom map size c.in_ok-page.page n) (λ chain. chain.pages) c.check_link.new.marks.items after result) c.saturating_sub-left.ensures rest)))

pub returns-then-page-ne0-clause-checked : goal.returns-then-page-ne0-clause-checked
returns-then-page-ne0-clause-checked g c =
    let p = g.P.Pages in
    ends p.below p.tells p.limits p.map p.count p.failures c.args.pages.now c.links.pages c.args.marks.now.items c.links.marks.items _ _ c.links.invariant c.links.marks.items (Err (Damaged Damage.Cell c.links.page))
    (λ map size told can. chain_goes_on map size c.links.page c.links.left c.links.marks.items c.links.marks.items (Damaged Damage.Cell c.links.page) (omega (arith, c.links-test.false)) c.if-page-ne0.true)

pub returns-clause-checked : goal.returns-clause-checked
returns-clause-checked g c =
    let p = g.P.Pages in
    ends p.below p.tells p.limits p.map p.count p.failures c.args.pages.now c.links.pages c.args.marks.now.items c.links.marks.items _ _ c.links.invariant c.links.marks.items (Ok tt)
    (λ map size told can. chain_ends map size c.links.page c.links.left c.links.marks.items (omega (arith, c.links-test.false)) c.if-page-ne0.false)
