use Rattle.std.proofs.Common.{◌≡◌, drop}
use Rattle.shell.specs.Pairs as spec
use Rattle.shell.proofs.pairs.widest.Given as goal

abbrev pub invariant-names : goal.invariant-names
invariant-names l = spec.widest l.most (drop l.name-index l.names) ≡ spec.widest l.least l.names
