-- Each part of an expression is smaller.
use Rattle.std.proofs.Common.{◌+◌, ◌*◌}
use Rattle.query_terms.specs.Terms.{size}
use Rattle.query_terms.proofs.integers.+integer.Given as goal

abbrev pub decreases-integer : goal.decreases-integer
decreases-integer l = size l.term.now * 2

abbrev pub decreases-calculated : goal.decreases-calculated
decreases-calculated l = (size l.left.now + size l.right.now) * 2 + 1

abbrev pub decreases-compared : goal.decreases-compared
decreases-compared l = (size l.left.now + size l.right.now) * 2 + 1
