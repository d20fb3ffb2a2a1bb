use Rattle.std.proofs.Common.{length, ◌-◌}
use Rattle.tree_index.proofs.RunOff.{IsRunning}
use Rattle.tree_index.proofs.taking.run_off.Given as goal

-- so many are off the leaf
abbrev pub invariant-run : goal.invariant-run
invariant-run g l = IsRunning g.P.Pages.below g.P.Pages.tells g.P.Pages.limits g.P.Pages.map g.P.Pages.failures l.fn.pages l.pages l.number l.columns l.entries l.taken

abbrev pub decreases-run : goal.decreases-run
decreases-run g l = length l.entries - l.taken
