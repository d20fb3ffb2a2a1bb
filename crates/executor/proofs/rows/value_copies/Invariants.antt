-- the copies of the values so far
use Rattle.std.proofs.Common.{◌≡◌, take}
use Rattle.executor.proofs.rows.value_copies.Given as goal

abbrev pub invariant-values : goal.invariant-values
invariant-values l = l.copies.items ≡ take l.value-index l.values
