-- each expression so far is copied
use Rattle.std.proofs.Common.{◌≡◌, map, take}
use Rattle.sql_bound.specs.Bound.{bound_tree}
use Rattle.sql_bound.proofs.expressions.bound_expressions.Given as goal

abbrev pub invariant-expressions : goal.invariant-expressions
invariant-expressions l = l.copies.items ≡ map (bound_tree l.values) (take l.expression-index l.list)
