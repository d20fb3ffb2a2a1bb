use Rattle.std.proofs.Common.{length, ◌-◌}
use Rattle.tree_index.proofs.RunOn.{IsRunningOn}
use Rattle.tree_index.proofs.coming.run_on.Given as goal

-- so many are on the leaf
abbrev pub invariant-run : goal.invariant-run
invariant-run g l = IsRunningOn g.P.Pages.below g.P.Pages.tells g.P.Pages.limits g.P.Pages.map g.P.Pages.failures l.fn.pages l.pages l.number l.columns l.entries l.put

abbrev pub decreases-run : goal.decreases-run
decreases-run g l = length l.entries - l.put
