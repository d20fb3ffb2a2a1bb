use Rattle.tree_overflow.proofs.FreedChains.{HasFreed}
use Rattle.tree_overflow.proofs.freeing.free_links.Given as goal

abbrev pub invariant-links : goal.invariant-links
invariant-links g l =
    HasFreed g.P.Pages.below g.P.Pages.tells g.P.Pages.limits g.P.Pages.map g.P.Pages.count g.P.Pages.failures l.fn.pages l.pages l.first l.size l.page l.left

abbrev pub decreases-links : goal.decreases-links
decreases-links g l = l.left
