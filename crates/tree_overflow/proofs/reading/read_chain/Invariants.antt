use Rattle.tree_overflow.proofs.ReadChains.{HasRead}
use Rattle.tree_overflow.proofs.reading.read_chain.Given as goal

abbrev pub invariant-links : goal.invariant-links
invariant-links g l =
    HasRead g.P.Pages.below g.P.Pages.tells g.P.Pages.limits g.P.Pages.map g.P.Pages.count g.P.Pages.failures l.fn.pages l.pages l.first l.size l.page l.left l.fn.out.items l.out.items

abbrev pub decreases-links : goal.decreases-links
decreases-links g l = l.left
