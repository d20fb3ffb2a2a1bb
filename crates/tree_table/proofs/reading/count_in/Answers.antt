use Rattle.std.proofs.Common.{ℕ, Ok, sym, ap, subst}
use Rattle.tree_page.specs.Node.{Rows, IsNode}
use Rattle.tree_table.proofs.StepsDown.{on_page}
use Rattle.tree_table.proofs.reading.count_in.Goals as goal

pub returns-in_err-over-clause-only : goal.returns-in_err-over-clause-only
returns-in_err-over-clause-only c = λ rows is.
    absurd (c.in_err-over.ensures.only (Rows rows) (subst (λ (n : ℕ). IsNode c.args.bytes.now n (Rows rows)) (sym c.start_of.ensures) is))

pub returns-clause-only : goal.returns-clause-only
returns-clause-only c = λ rows is.
    (let on = on_page c.in_ok-over.field-0 c.args.bytes.now _ c.start_of.result (Rows rows) c.in_ok-over.ensures.place c.start_of.ensures is in
    ap (λ (n : ℕ). Ok n) (c.len.ensures (Rows rows) on))
