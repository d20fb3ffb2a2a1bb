use Rattle.std.proofs.Common.{length}
use Rattle.tree_overflow.proofs.LayingChains.{HasLaid}
use Rattle.tree_overflow.proofs.writing.lay_chain.Given as goal

abbrev pub invariant-links : goal.invariant-links
invariant-links g l =
    HasLaid g.P.Pages.below g.P.Pages.tells g.P.Pages.limits g.P.Pages.map g.P.Pages.failures l.fn.pages l.pages l.first l.page l.bytes l.left l.link.items

abbrev pub decreases-links : goal.decreases-links
decreases-links g l = length l.left
