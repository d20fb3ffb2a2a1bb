use Rattle.std.proofs.Common.{ℕ, sym, subst}
use Rattle.tree_page.specs.Node.{Rows, IsNode}
use Rattle.tree_table.proofs.reading.row_in.Goals as goal

pub returns-in_err-over-clause-only : goal.returns-in_err-over-clause-only
returns-in_err-over-clause-only c = λ rows d is lt.
    absurd (c.in_err-over.ensures.only (Rows rows) (subst (λ (n : ℕ). IsNode c.args.bytes.now n (Rows rows)) (sym c.start_of.ensures) is))
