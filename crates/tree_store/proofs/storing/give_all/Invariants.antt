use Rattle.std.proofs.Common.{length}
use Rattle.tree_store.proofs.WrittenPages.{HasGiven}
use Rattle.tree_store.proofs.storing.give_all.Given as goal

abbrev pub invariant-spare : goal.invariant-spare
invariant-spare g l = HasGiven g.P.Pages.below g.P.Pages.tells g.P.Pages.limits g.P.Pages.map g.P.Pages.failures l.fn.pages l.pages l.spare l.left

abbrev pub decreases-spare : goal.decreases-spare
decreases-spare g l = length l.left
