use Rattle.tree_table.proofs.lowering.lone_in.Goals as goal

pub returns-in_err-page-clause-only : goal.returns-in_err-page-clause-only
returns-in_err-page-clause-only c = λ node is. absurd (c.in_err-page.ensures.only node is)
