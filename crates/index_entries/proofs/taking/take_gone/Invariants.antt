-- what is left decides
use Rattle.std.proofs.Common.{length}
use Rattle.index_entries.specs.Taking.{TakesGone}
use Rattle.index_entries.proofs.Looping.{IsOn}
use Rattle.index_entries.proofs.taking.take_gone.Given as goal

abbrev pub invariant-runs : goal.invariant-runs
invariant-runs g l = IsOn g.P.Pages.below g.P.Pages.tells g.P.Pages.limits g.P.Pages.map g.P.Pages.failures
    (λ old new size gone result. TakesGone old new size l.root l.under gone result) l.fn.pages l.pages l.entries l.left

abbrev pub decreases-runs : goal.decreases-runs
decreases-runs g l = length l.left
