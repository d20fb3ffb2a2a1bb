use Rattle.std.proofs.Common.{◌∙◌, ◌-◌, ℕ, Ok, Err, ap, subst, arith}
use Rattle.sqlval.specs.declared.fault.Fault.TheVariants.{Damaged}
use Rattle.sqlval.specs.declared.fault.Damage.TheVariants as Damage
use Rattle.freelist.specs.Freelist.{IsFreelist, pages_of}
use Rattle.tree_check.specs.Exact.{Checks}
use Rattle.tree_check.proofs.Links.{large_size}
use Rattle.tree_check.proofs.Running.{goes_on, ends}
use Rattle.tree_check.proofs.Trunking.{trunk_then, trunk_stops, list_ends, list_goes_on}
use Rattle.tree_check.proofs.lists.check_trunks.Goals as goal

pub returns-in_err-listed-clause-checked : goal.returns-in_err-listed-clause-checked
returns-in_err-listed-clause-checked g c =
    let p = g.P.Pages in
    ends p.below p.tells p.limits p.map p.count p.failures c.args.pages.now c.trunks.pages c.args.marks.now.items c.trunks.marks.items _ _ c.trunks.invariant c.check_trunk.new.marks.items c.from_residual.result
    (λ map size told can. trunk_stops map size c.trunks.trunk c.trunks.left c.trunks.marks.items c.check_trunk.new.marks.items c.check_trunk.new.marks.items c.in_err-listed.field-0.0 c.from_residual.result c.trunks-test.true
    (c.in_err-listed.ensures.checked map size told can) c.from_residual.ensures.1)

pub trunks-preserved : goal.trunks-preserved
trunks-preserved g c =
    let p = g.P.Pages in
    goes_on p.below p.tells p.limits p.map p.count p.failures c.args.pages.now c.trunks.pages c.args.marks.now.items c.trunks.marks.items _ _ c.trunks.invariant
    (Ok c.in_ok-listed.listed) c.check_trunk.new.pages c.check_trunk.new.marks.items _ c.in_ok-listed.ensures.stays c.in_ok-listed.ensures.long
    (λ map size told can after result rest. trunk_then map size c.trunks.trunk c.trunks.left c.in_ok-listed.listed c.trunks.marks.items c.check_trunk.new.marks.items (large_size size can.sized).1 c.trunks-test.true
    (c.in_ok-listed.ensures.checked map size told can) after result
    (subst (λ (n : ℕ). Checks (IsFreelist map size c.in_ok-listed.listed.next n) pages_of c.check_trunk.new.marks.items after result)
    (c.saturating_sub-left.ensures ∙ ap (λ (n : ℕ). n - 1) c.saturating_sub.ensures) rest))

pub returns-then-trunk-ne0-clause-checked : goal.returns-then-trunk-ne0-clause-checked
returns-then-trunk-ne0-clause-checked g c =
    let p = g.P.Pages in
    ends p.below p.tells p.limits p.map p.count p.failures c.args.pages.now c.trunks.pages c.args.marks.now.items c.trunks.marks.items _ _ c.trunks.invariant c.trunks.marks.items (Err (Damaged Damage.Freelist c.trunks.trunk))
    (λ map size told can. list_goes_on map size c.trunks.trunk c.trunks.left c.trunks.marks.items c.trunks.marks.items (Damaged Damage.Freelist c.trunks.trunk) (omega (arith, c.trunks-test.false)) c.if-trunk-ne0.true)

pub returns-clause-checked : goal.returns-clause-checked
returns-clause-checked g c =
    let p = g.P.Pages in
    ends p.below p.tells p.limits p.map p.count p.failures c.args.pages.now c.trunks.pages c.args.marks.now.items c.trunks.marks.items _ _ c.trunks.invariant c.trunks.marks.items (Ok tt)
    (λ map size told can. list_ends map size c.trunks.trunk c.trunks.left c.trunks.marks.items (omega (arith, c.trunks-test.false)) c.if-trunk-ne0.false)
