-- Each part of an expression is smaller.
use Rattle.std.proofs.Common.{◌≡◌, max, drop}
use Rattle.sql_syntax.specs.Tree.{size, size_in, trees}
use Rattle.sql_bound.specs.Greatest.{greatest_among}
use Rattle.sql_bound.proofs.greatest.+greatest_in.Given as goal

abbrev pub decreases-greatest_in : goal.decreases-greatest_in
decreases-greatest_in l = size l.expression.now

abbrev pub decreases-greatest_among : goal.decreases-greatest_among
decreases-greatest_among l = size_in (trees l.list.now)

-- the greatest so far or the greatest of the rest
abbrev pub invariant-greatest_among-expressions : goal.invariant-greatest_among-expressions
invariant-greatest_among-expressions l = max l.greatest (greatest_among (trees (drop l.expression-index l.list))) ≡ greatest_among (trees l.list)
