use Rattle.std.proofs.Common.{◌<◌, ℕ, [], length, Ok, sym, subst, arith}
use Rattle.sqlval.specs.Faults.{IsNotDiskFault}
use Rattle.tree_page.specs.Node.{Local, Entries, IsNode}
use Rattle.tree_page.specs.Reading.{local_of}
use Rattle.tree_table.proofs.Stayed.{damage_other}
use Rattle.tree_check.proofs.EntryChecks.{entry_then, entries_stop, entries_end, entry_held}
use Rattle.tree_check.proofs.Passed.{on_page}
use Rattle.tree_check.proofs.Going.{goes_on, ends, stays_still, stays_stopped}
use Rattle.tree_check.proofs.Turns.{marks_kept}
use Rattle.tree_check.proofs.entries.check_each.Goals as goal

nothing : Local
nothing = record { size = 0; bytes = [] }

pub returns-in_err-leaf-clause-checked : goal.returns-in_err-leaf-clause-checked
returns-in_err-leaf-clause-checked g c = λ map size told can said is sized.
    absurd (c.in_err-leaf.ensures.only (Entries said) (subst (λ (n : ℕ). IsNode c.args.bytes.now n (Entries said)) (sym c.start_of.ensures) is))

pub returns-in_err-local-clause-checked : goal.returns-in_err-local-clause-checked
returns-in_err-local-clause-checked g c = λ map size told can said is sized.
    (let on = on_page c.in_ok-leaf.leaf c.args.bytes.now _ c.start_of.result (Entries said) c.in_ok-leaf.ensures.place c.start_of.ensures is in
    let count = c.len-index-end.ensures (Entries said) on in
    absurd (c.in_err-local.ensures.only said nothing on (omega (arith, count, c.entries-test.true))))

pub returns-in_err-local-clause-stays : goal.returns-in_err-local-clause-stays
returns-in_err-local-clause-stays g c =
    let p = g.P.Pages in
    stays_still p.below p.tells p.limits p.map p.count p.failures marks_kept c.args.pages.now c.entries.pages (c.args.marks.now.items, c.args.last.now) (c.entries.marks.items, c.entries.last) _ _ c.entries.invariant
    c.in_err-local.field-0.0 c.from_residual-in_err-local.result (subst IsNotDiskFault (sym c.in_err-local.ensures.refused) (damage_other _ 0)) c.from_residual-in_err-local.ensures.1

pub returns-in_err-check_lying-clause-checked : goal.returns-in_err-check_lying-clause-checked
returns-in_err-check_lying-clause-checked g c =
    let p = g.P.Pages in
    ends p.below p.tells p.limits p.map p.count p.failures marks_kept c.args.pages.now c.entries.pages (c.args.marks.now.items, c.args.last.now) (c.entries.marks.items, c.entries.last) _ _ c.entries.invariant
    (c.check_lying.new.marks.items, c.check_lying.new.last) c.from_residual-in_err-check_lying.result
    (λ map size told can said is sized. (
    let on = on_page c.in_ok-leaf.leaf c.args.bytes.now _ c.start_of.result (Entries said) c.in_ok-leaf.ensures.place c.start_of.ensures is in
    let count = c.len-index-end.ensures (Entries said) on in
    let lt : c.entries.index < length said = omega (arith, count, c.entries-test.true) in
    let local = local_of c.in_ok-local.local in
    let there = c.in_ok-local.ensures.only said local on lt in
    entries_stop map size said c.entries.index local c.args.columns.now c.entries.last c.check_lying.new.last c.check_lying.new.last c.entries.marks.items c.check_lying.new.marks.items c.check_lying.new.marks.items
    c.in_err-check_lying.field-0.0 c.from_residual-in_err-check_lying.result lt there
    (c.in_err-check_lying.ensures.checked map size told can (entry_held c.args.bytes.now _ size said c.entries.index local is sized lt there)) c.from_residual-in_err-check_lying.ensures.1))

pub returns-in_err-check_lying-clause-stays : goal.returns-in_err-check_lying-clause-stays
returns-in_err-check_lying-clause-stays g c =
    let p = g.P.Pages in
    stays_stopped p.below p.tells p.limits p.map p.count p.failures marks_kept c.args.pages.now c.entries.pages (c.args.marks.now.items, c.args.last.now) (c.entries.marks.items, c.entries.last) _ _ c.entries.invariant
    c.in_err-check_lying.field-0.0 c.from_residual-in_err-check_lying.result c.check_lying.new.pages c.in_err-check_lying.ensures.stays c.from_residual-in_err-check_lying.ensures.1

pub entries-preserved : goal.entries-preserved
entries-preserved g c =
    let p = g.P.Pages in
    goes_on p.below p.tells p.limits p.map p.count p.failures marks_kept c.args.pages.now c.entries.pages (c.args.marks.now.items, c.args.last.now) (c.entries.marks.items, c.entries.last) _ _ c.entries.invariant
    (Ok tt) c.check_lying.new.pages (c.check_lying.new.marks.items, c.check_lying.new.last) _ c.in_ok-check_lying.ensures.stays c.in_ok-check_lying.ensures.long
    (λ map size told can after result rest said is sized. (
    let on = on_page c.in_ok-leaf.leaf c.args.bytes.now _ c.start_of.result (Entries said) c.in_ok-leaf.ensures.place c.start_of.ensures is in
    let count = c.len-index-end.ensures (Entries said) on in
    let lt : c.entries.index < length said = omega (arith, count, c.entries-test.true) in
    let local = local_of c.in_ok-local.local in
    let there = c.in_ok-local.ensures.only said local on lt in
    entry_then map size said c.entries.index local c.args.columns.now c.entries.last c.check_lying.new.last after.1 c.entries.marks.items c.check_lying.new.marks.items after.0 result lt there
    (c.in_ok-check_lying.ensures.checked map size told can (entry_held c.args.bytes.now _ size said c.entries.index local is sized lt there)) (rest said is sized)))

pub returns-clause-checked : goal.returns-clause-checked
returns-clause-checked g c =
    let p = g.P.Pages in
    ends p.below p.tells p.limits p.map p.count p.failures marks_kept c.args.pages.now c.entries.pages (c.args.marks.now.items, c.args.last.now) (c.entries.marks.items, c.entries.last) _ _ c.entries.invariant
    (c.entries.marks.items, c.entries.last) (Ok tt)
    (λ map size told can said is sized. (
    let on = on_page c.in_ok-leaf.leaf c.args.bytes.now _ c.start_of.result (Entries said) c.in_ok-leaf.ensures.place c.start_of.ensures is in
    let count = c.len-index-end.ensures (Entries said) on in
    entries_end map size said c.entries.index c.args.columns.now c.entries.last c.entries.marks.items (omega (arith, count, c.entries-test.false))))
