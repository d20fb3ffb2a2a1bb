use Rattle.std.proofs.Common.{◌≡◌, take}
use Rattle.tree_index.proofs.scanning.values_of.Given as goal

abbrev pub invariant-values : goal.invariant-values
invariant-values l = l.values.items ≡ take l.place l.record
