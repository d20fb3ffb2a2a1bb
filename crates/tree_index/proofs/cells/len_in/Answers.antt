use Rattle.std.proofs.Common.{ℕ, sym, subst}
use Rattle.tree_page.specs.Node.{IsNode}
use Rattle.tree_index.proofs.cells.len_in.Goals as goal

pub returns-in_err-over-clause-only : goal.returns-in_err-over-clause-only
returns-in_err-over-clause-only c = λ node is.
    absurd (c.in_err-over.ensures.only node (subst (λ (n : ℕ). IsNode c.args.bytes.now n node) (sym c.start_of.ensures) is))
