use Rattle.std.proofs.Common.{◌≡◌, length}
use Rattle.wal_frame.specs.Sums.{words, carried}
use Rattle.wal_frame.proofs.sums.Sum.step.Given as goal

abbrev pub invariant-pairs : goal.invariant-pairs
invariant-pairs l = carried l.sum (words l.order l.rest) ≡ carried l.fn.self (words l.order l.bytes)

abbrev pub decreases-pairs : goal.decreases-pairs
decreases-pairs l = length l.rest
