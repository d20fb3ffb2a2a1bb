-- Each part of a condition is smaller.
use Rattle.std.proofs.Common.{◌+◌, ◌*◌}
use Rattle.query_terms.specs.Terms.{size}
use Rattle.query_plan.proofs.calm.+calm.Given as goal

abbrev pub decreases-is_calm : goal.decreases-is_calm
decreases-is_calm l = size l.condition.now * 2

abbrev pub decreases-both_are_calm : goal.decreases-both_are_calm
decreases-both_are_calm l = (size l.left.now + size l.right.now) * 2 + 1
