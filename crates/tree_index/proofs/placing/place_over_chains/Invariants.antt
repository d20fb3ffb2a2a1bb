use Rattle.std.proofs.Common.{◌-◌}
use Rattle.tree_index.proofs.Halving.{IsHalving}
use Rattle.tree_index.proofs.placing.place_over_chains.Given as goal

abbrev pub invariant-halves : goal.invariant-halves
invariant-halves g l = IsHalving g.P.Pages.below g.P.Pages.tells g.P.Pages.limits g.P.Pages.map g.P.Pages.count g.P.Pages.failures l.fn.pages l.pages l.number l.after l.key.columns.now l.key.values.now l.low l.high

abbrev pub decreases-halves : goal.decreases-halves
decreases-halves g l = l.high - l.low
