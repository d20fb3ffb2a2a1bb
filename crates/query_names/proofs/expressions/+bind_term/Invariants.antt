-- Each part of an expression is smaller; an expression stands over its form's own function.
use Rattle.std.proofs.Common.{◌≡◌, ◌+◌, ◌*◌, drop, length}
use Rattle.sql_syntax.specs.Tree.{size, size_in, trees}
use Rattle.query_names.specs.Expressions.{count_of, resolve_all}
use Rattle.query_names.proofs.BoundLists.{onto}
use Rattle.query_names.proofs.expressions.+bind_term.Given as goal

abbrev pub decreases-bind_term : goal.decreases-bind_term
decreases-bind_term l = size l.tree.now * 3

abbrev pub decreases-bind_boxed : goal.decreases-bind_boxed
decreases-bind_boxed l = size l.tree.now * 3 + 1

abbrev pub decreases-bind_one : goal.decreases-bind_one
decreases-bind_one l = size l.operand.now * 3 + 2

abbrev pub decreases-bind_two : goal.decreases-bind_two
decreases-bind_two l = (size l.left.now + size l.right.now) * 3 + 2

abbrev pub decreases-bind_collated : goal.decreases-bind_collated
decreases-bind_collated l = size l.operand.now * 3 + 2

abbrev pub decreases-bind_between : goal.decreases-bind_between
decreases-bind_between l = (size l.operand.now + size l.low.now + size l.high.now) * 3 + 2

abbrev pub decreases-bind_among : goal.decreases-bind_among
decreases-bind_among l = (size l.operand.now + size_in (trees l.list.now)) * 3 + 2

abbrev pub decreases-bind_call : goal.decreases-bind_call
decreases-bind_call l = size_in (trees l.list.now) * 3 + 2

abbrev pub decreases-bind_all : goal.decreases-bind_all
decreases-bind_all l = size_in (trees l.list.now) * 3

-- what is left of the list decides
abbrev pub invariant-bind_all-trees : goal.invariant-bind_all-trees
invariant-bind_all-trees l =
    (onto l.found.items (resolve_all l.totals l.scope (trees (drop l.tree-index l.list))) ≡ resolve_all l.totals l.scope (trees l.list))
    × (length l.found.items + count_of (trees (drop l.tree-index l.list)) ≡ count_of (trees l.list))
