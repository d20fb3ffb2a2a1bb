-- what was seen of the values that were passed over, and that the others follow
use Rattle.std.proofs.Common.{length}
use Rattle.record.proofs.RowChecks.{HasSeen}
use Rattle.record.proofs.checking.look_over.Given as goal

abbrev pub invariant-columns : goal.invariant-columns
invariant-columns l = HasSeen l.types l.bodies l.own l.types_left l.bodies_left l.count l.has_null l.is_storable

abbrev pub decreases-columns : goal.decreases-columns
decreases-columns l = length l.types_left
