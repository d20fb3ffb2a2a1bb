use Rattle.std.proofs.Common.{ℕ, sym, subst}
use Rattle.tree_page.specs.Node.{IsNode}
use Rattle.tree_index.proofs.Readings.{on_page}
use Rattle.tree_index.proofs.cells.local_in.Goals as goal

pub returns-in_err-page-clause-only : goal.returns-in_err-page-clause-only
returns-in_err-page-clause-only c = λ node d is ours lt.
    absurd (c.in_err-page.ensures.only node (subst (λ (n : ℕ). IsNode c.args.bytes.now n node) (sym c.start_of.ensures) is))

pub returns-clause-only : goal.returns-clause-only
returns-clause-only c = λ node d is ours lt.
    c.local_on.ensures.only node d (on_page c.in_ok-page.page c.args.bytes.now _ c.start_of.result node c.in_ok-page.ensures.place c.start_of.ensures is) ours lt
