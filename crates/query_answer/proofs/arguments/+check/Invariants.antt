-- Each part of an expression is smaller.
use Rattle.std.proofs.Common.{◌≡◌, ◌+◌, ◌*◌, drop}
use Rattle.query_terms.specs.Terms.{terms, size, size_in}
use Rattle.query_terms.specs.Rows.{seen}
use Rattle.query_answer.specs.Checks.{checked_in}
use Rattle.query_answer.proofs.arguments.+check.Given as goal

abbrev pub decreases-check : goal.decreases-check
decreases-check l = size l.term.now * 3

abbrev pub decreases-check_two : goal.decreases-check_two
decreases-check_two l = (size l.left.now + size l.right.now) * 3 + 1

abbrev pub decreases-check_among : goal.decreases-check_among
decreases-check_among l = (size l.operand.now + size_in (terms l.list.now)) * 3 + 2

abbrev pub decreases-check_list : goal.decreases-check_list
decreases-check_list l = size_in (terms l.list.now) * 3 + 1

-- what is left decides
abbrev pub invariant-check_list-terms : goal.invariant-check_list-terms
invariant-check_list-terms l = checked_in (terms (drop l.term-index l.list)) (seen l.env) ≡ checked_in (terms l.list) (seen l.env)
