use Rattle.std.proofs.Common.{ℕ, sym, subst}
use Rattle.tree_page.specs.Node.{Rows, IsNode}
use Rattle.tree_check.proofs.Passed.{passed_memory, on_page, no_leaf}
use Rattle.tree_table.proofs.Stayed.{damage_other}
use Rattle.tree_check.proofs.leaves.leaf_in.Goals as goal

pub returns-in_err-page-clause-only : goal.returns-in_err-page-clause-only
returns-in_err-page-clause-only c = λ said is rises.
    absurd (c.in_err-page.ensures.only (Rows said) (subst (λ (n : ℕ). IsNode c.args.bytes.now n (Rows said)) (sym c.start_of.ensures) is))

pub returns-in_err-check-clause-only : goal.returns-in_err-check-clause-only
returns-in_err-check-clause-only c = λ said is rises.
    passed_memory c.from_residual-in_err-check.result c.in_err-check.field-0.0 c.from_residual-in_err-check.ensures.1
    (c.in_err-check.ensures.only (Rows said) (on_page c.in_ok-page.page c.args.bytes.now _ c.start_of.result (Rows said) c.in_ok-page.ensures.place c.start_of.ensures is))

pub returns-in-TableInterior : goal.returns-in-TableInterior
returns-in-TableInterior c = record {
  found = tt;
  only = λ said is rises. (
      absurd (no_leaf c.kind.result c.in-TableInterior.is
      (c.kind.ensures (Rows said) (on_page c.in_ok-page.page c.args.bytes.now _ c.start_of.result (Rows said) c.in_ok-page.ensures.place c.start_of.ensures is))));
  not_disk = damage_other _ 0;
}
