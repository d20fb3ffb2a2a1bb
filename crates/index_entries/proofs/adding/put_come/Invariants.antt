-- what is left decides
use Rattle.std.proofs.Common.{length}
use Rattle.index_entries.specs.Coming.{PutsCome}
use Rattle.index_entries.proofs.Looping.{IsOn}
use Rattle.index_entries.proofs.adding.put_come.Given as goal

abbrev pub invariant-runs : goal.invariant-runs
invariant-runs g l = IsOn g.P.Pages.below g.P.Pages.tells g.P.Pages.limits g.P.Pages.map g.P.Pages.failures
    (λ old new size come result. PutsCome old new size l.root l.under come result) l.fn.pages l.pages l.entries l.left

abbrev pub decreases-runs : goal.decreases-runs
decreases-runs g l = length l.left
