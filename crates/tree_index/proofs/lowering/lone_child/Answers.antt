use Rattle.std.proofs.Common.{subst, sym}
use Rattle.tree_index.proofs.Neither.{neither}
use Rattle.tree_page.specs.Node.{IsNode}
use Rattle.tree_index.proofs.lowering.lone_child.Goals as goal

pub returns-in_default-clause-only : goal.returns-in_default-clause-only
returns-in_default-clause-only c = λ node is alone empty. absurd (neither c.over.result (c.over.ensures.only node (subst (λ bytes. IsNode bytes 0 node) (sym c.as_slice.ensures.value) is)) c.in_default.not-Ok)
