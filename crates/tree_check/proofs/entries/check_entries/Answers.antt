use Rattle.std.proofs.Common.{◌≡◌, Ok, Err, List, rules, subst, sym}
use Rattle.sqlval.specs.declared.value.Value.{Value}
use Rattle.tree_page.specs.Cells.{Pairwise}
use Rattle.tree_index.specs.Tree.{IsHeldAs}
use Rattle.tree_check.specs.InOrder.{ChecksOrdered}
use Rattle.tree_check.specs.IndexTrees.{chains_of, entries_in}
use Rattle.tree_check.proofs.EntryChecks.{handed_on}
use Rattle.tree_check.proofs.entries.check_entries.Goals as goal

pub returns-in_err-check_each-clause-checked : goal.returns-in_err-check_each-clause-checked
returns-in_err-check_each-clause-checked g c = λ map size told can said is sized.
    (let seen : c.copied-seen.result ≡ c.args.last.now = search rules in
    handed_on (Pairwise (IsHeldAs map size) said) chains_of entries_in c.args.columns.now c.args.last.now c.args.marks.now.items c.check_each.new.last _ c.check_each.new.marks.items _
    c.in_err-check_each.field-0.0 c.from_residual.result
    (subst (λ (l : List Value). ChecksOrdered (Pairwise (IsHeldAs map size) said) chains_of entries_in c.args.columns.now l c.check_each.new.last c.args.marks.now.items c.check_each.new.marks.items (Err c.in_err-check_each.field-0.0)) seen
    (c.in_err-check_each.ensures.checked map size told can said is sized)) c.from_residual.ensures.1)

pub returns-clause-checked : goal.returns-clause-checked
returns-clause-checked g c = λ map size told can said is sized.
    (let seen : c.copied-seen.result ≡ c.args.last.now = search rules in
    let kept : c.in_ok-last.field-0 ≡ c.check_each.new.last = search rules in
    subst (λ (l : List Value). ChecksOrdered (Pairwise (IsHeldAs map size) said) chains_of entries_in c.args.columns.now c.args.last.now l c.args.marks.now.items c.check_each.new.marks.items (Ok tt)) (sym kept)
    (subst (λ (l : List Value). ChecksOrdered (Pairwise (IsHeldAs map size) said) chains_of entries_in c.args.columns.now l c.check_each.new.last c.args.marks.now.items c.check_each.new.marks.items (Ok tt)) seen
    (c.in_ok-check_each.ensures.checked map size told can said is sized)))
