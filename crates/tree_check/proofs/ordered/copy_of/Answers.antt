use Rattle.std.proofs.Common.{ℕ, sym, subst}
use Rattle.tree_page.specs.Node.{IsNode}
use Rattle.tree_check.proofs.Passed.{passed_memory, on_page}
use Rattle.tree_check.proofs.ordered.copy_of.Goals as goal

pub returns-in_err-page-clause-only : goal.returns-in_err-page-clause-only
returns-in_err-page-clause-only c = λ node is code.
    absurd (c.in_err-page.ensures.only node (subst (λ (n : ℕ). IsNode c.args.bytes.now n node) (sym c.start_of.ensures) is))

pub returns-in_err-check-clause-only : goal.returns-in_err-check-clause-only
returns-in_err-check-clause-only c = λ node is code.
    passed_memory c.from_residual-in_err-check.result c.in_err-check.field-0.0 c.from_residual-in_err-check.ensures.1
    (c.in_err-check.ensures.only node (on_page c.in_ok-page.page c.args.bytes.now _ c.start_of.result node c.in_ok-page.ensures.place c.start_of.ensures is))
