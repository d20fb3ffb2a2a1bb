-- those kept are those of the places so far
use Rattle.std.proofs.Common.{◌≡◌, []}
use Rattle.query_answer.specs.Numbers.{kept_after}
use Rattle.query_answer.proofs.distinct.firsts.Given as goal

abbrev pub invariant-places : goal.invariant-places
invariant-places l = l.kept.items ≡ kept_after l.orders l.rows [] l.yielded
