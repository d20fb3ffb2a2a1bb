use Rattle.tree_check.proofs.LeftEdge.{HasGone}
use Rattle.tree_check.proofs.branches.depth_of.Given as goal

abbrev pub invariant-levels : goal.invariant-levels
invariant-levels g l =
    HasGone g.P.Pages.below g.P.Pages.tells g.P.Pages.limits g.P.Pages.map g.P.Pages.count g.P.Pages.failures l.fn.pages l.pages l.fn.root l.page l.depth
