-- Each part of an expression is smaller; an expression stands over its form's own function.
use Rattle.std.proofs.Common.{◌≡◌, ◌+◌, ◌*◌, map, take}
use Rattle.sql_syntax.specs.Tree.{size, size_in, trees}
use Rattle.sql_bound.specs.Bound.{bound_tree}
use Rattle.sql_bound.proofs.expressions.+bound_expression.Given as goal

abbrev pub decreases-bound_expression : goal.decreases-bound_expression
decreases-bound_expression l = size l.expression.now * 4 + 1

abbrev pub decreases-bound_boxed : goal.decreases-bound_boxed
decreases-bound_boxed l = size l.expression.now * 4 + 2

abbrev pub decreases-bound_paren : goal.decreases-bound_paren
decreases-bound_paren l = size l.inner.now * 4 + 3

abbrev pub decreases-bound_negated : goal.decreases-bound_negated
decreases-bound_negated l = size l.operand.now * 4 + 3

abbrev pub decreases-bound_not : goal.decreases-bound_not
decreases-bound_not l = size l.operand.now * 4 + 3

abbrev pub decreases-bound_binary : goal.decreases-bound_binary
decreases-bound_binary l = (size l.left.now + size l.right.now) * 4 + 3

abbrev pub decreases-bound_between : goal.decreases-bound_between
decreases-bound_between l = (size l.operand.now + size l.low.now + size l.high.now) * 4 + 3

abbrev pub decreases-bound_in : goal.decreases-bound_in
decreases-bound_in l = (size l.operand.now + size_in (trees l.list.now)) * 4 + 3

abbrev pub decreases-bound_collate : goal.decreases-bound_collate
decreases-bound_collate l = size l.operand.now * 4 + 3

abbrev pub decreases-bound_call : goal.decreases-bound_call
decreases-bound_call l = size_in (trees l.list.now) * 4 + 3

abbrev pub decreases-bound_list : goal.decreases-bound_list
decreases-bound_list l = size_in (trees l.list.now) * 4 + 2

-- each expression so far is copied
abbrev pub invariant-bound_list-expressions : goal.invariant-bound_list-expressions
invariant-bound_list-expressions l = l.copies.items ≡ map (bound_tree l.values) (take l.expression-index l.list)
