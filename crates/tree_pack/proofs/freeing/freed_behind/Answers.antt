use Rattle.std.proofs.Common.{refl}
use Rattle.tree_pack.proofs.FreeingLemmas.{behind_clear}
use Rattle.tree_pack.proofs.freeing.freed_behind.Goals as goal

pub returns-then-cell-before-lt4-clause-clear : goal.returns-then-cell-before-lt4-clause-clear
returns-then-cell-before-lt4-clause-clear c =
    λ node is place cell. behind_clear c.args.page.now c.args.start node is c.args.cell c.in_ok-at.at c.grown.result c.grown.ensures (c.if-not-is_head_clear.ensures refl node is place cell)

pub returns-else-cell-before-lt4-clause-clear : goal.returns-else-cell-before-lt4-clause-clear
returns-else-cell-before-lt4-clause-clear c =
    λ node is place cell. behind_clear c.args.page.now c.args.start node is c.args.cell c.in_ok-at.at c.chained.result c.chained.ensures (c.if-not-is_head_clear.ensures refl node is place cell)
