use Rattle.std.proofs.Common.{ℕ, sym, subst}
use Rattle.tree_page.specs.Node.{Keys, IsNode}
use Rattle.tree_check.proofs.Passed.{passed_memory, on_page, no_branch}
use Rattle.tree_table.proofs.Stayed.{damage_other}
use Rattle.tree_check.proofs.branches.kids_in.Goals as goal

pub returns-in_err-page-clause-only : goal.returns-in_err-page-clause-only
returns-in_err-page-clause-only c = λ kids last is.
    absurd (c.in_err-page.ensures.only (Keys kids last) (subst (λ (n : ℕ). IsNode c.args.bytes.now n (Keys kids last)) (sym c.start_of.ensures) is))

pub returns-in_err-check-clause-only : goal.returns-in_err-check-clause-only
returns-in_err-check-clause-only c = λ kids last is.
    passed_memory c.from_residual-in_err-check.result c.in_err-check.field-0.0 c.from_residual-in_err-check.ensures.1
    (c.in_err-check.ensures.only (Keys kids last) (on_page c.in_ok-page.page c.args.bytes.now _ c.start_of.result (Keys kids last) c.in_ok-page.ensures.place c.start_of.ensures is))

pub returns-in-TableLeaf : goal.returns-in-TableLeaf
returns-in-TableLeaf c = record {
  found = tt;
  only = λ kids last is. (
      absurd (no_branch c.kind.result c.in-TableLeaf.is
      (c.kind.ensures (Keys kids last) (on_page c.in_ok-page.page c.args.bytes.now _ c.start_of.result (Keys kids last) c.in_ok-page.ensures.place c.start_of.ensures is))));
  not_disk = damage_other _ 0;
}
