use Rattle.std.proofs.Common.{refl, subst}
use Rattle.tree_pack.specs.Freeing.{AreClear}
use Rattle.tree_pack.proofs.FreeingLemmas.{of_cell}
use Rattle.tree_pack.proofs.freeing.is_head_clear.Goals as goal

pub returns : goal.returns
returns c =
    λ told node is place cell.
    subst (λ n. AreClear c.args.at n is.page_is.spans) c.in-Some.ensures.1 (c.are_clear.ensures told node is (of_cell c.args.page.now c.args.start node is place c.args.cell _ cell refl refl))
