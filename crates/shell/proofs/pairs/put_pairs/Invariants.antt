use Rattle.std.proofs.Common.{◌≡◌, ◌++◌, length}
use Rattle.shell.specs.Pairs.{named_values}
use Rattle.shell.proofs.pairs.put_pairs.Given as goal

abbrev pub invariant-columns : goal.invariant-columns
invariant-columns l = l.out.items ++ named_values l.most l.names l.values ≡ l.initial.out.items ++ named_values l.most l.initial.names l.initial.values

abbrev pub decreases-columns : goal.decreases-columns
decreases-columns l = length l.names
