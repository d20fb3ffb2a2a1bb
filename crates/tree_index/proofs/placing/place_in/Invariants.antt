use Rattle.std.proofs.Common.{◌-◌}
use Rattle.tree_index.proofs.Halving.{IsHalvingIn}
use Rattle.tree_index.proofs.placing.place_in.Given as goal

abbrev pub invariant-halves : goal.invariant-halves
invariant-halves l = IsHalvingIn l.bytes l.number l.most l.after l.key.columns.now l.key.values.now l.low l.high

abbrev pub decreases-halves : goal.decreases-halves
decreases-halves l = l.high - l.low
