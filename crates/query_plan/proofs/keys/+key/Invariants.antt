-- Each part of a condition is smaller.
use Rattle.std.proofs.Common.{◌+◌, ◌*◌}
use Rattle.query_terms.specs.Terms.{size}
use Rattle.query_plan.proofs.keys.+key.Given as goal

abbrev pub decreases-key_in : goal.decreases-key_in
decreases-key_in l = size l.condition.now * 2

abbrev pub decreases-key_in_either : goal.decreases-key_in_either
decreases-key_in_either l = (size l.left.now + size l.right.now) * 2 + 1
