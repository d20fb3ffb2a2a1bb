use Rattle.tree_table.proofs.Lasts.{AreUpTo, count_below}
use Rattle.tree_table.proofs.finding.last.Given as goal

abbrev pub invariant-leaves : goal.invariant-leaves
invariant-leaves g l = AreUpTo g.P.Pages.below g.P.Pages.tells g.P.Pages.limits g.P.Pages.map g.P.Pages.count g.P.Pages.failures l.fn.pages l.pages l.fn.root l.most

abbrev pub decreases-leaves : goal.decreases-leaves
decreases-leaves g l = count_below l.most
