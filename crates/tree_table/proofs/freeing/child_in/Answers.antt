use Rattle.std.proofs.Common.{ℕ, sym, subst}
use Rattle.tree_page.specs.Node.{Keys, IsNode}
use Rattle.tree_table.proofs.Pieces.{child_answers}
use Rattle.tree_table.proofs.StepsDown.{on_page}
use Rattle.tree_table.proofs.freeing.child_in.Goals as goal

pub returns-in_err-page-clause-only : goal.returns-in_err-page-clause-only
returns-in_err-page-clause-only c = λ kids last is.
    absurd (c.in_err-page.ensures.only (Keys kids last) (subst (λ (n : ℕ). IsNode c.args.bytes.now n (Keys kids last)) (sym c.start_of.ensures) is))

pub returns-clause-only : goal.returns-clause-only
returns-clause-only c = λ kids last is.
    (let on = on_page c.in_ok-page.page c.args.bytes.now _ c.start_of.result (Keys kids last) c.in_ok-page.ensures.place c.start_of.ensures is in
    child_answers c.child_at.result _ (c.child_at.ensures.found kids last on))
