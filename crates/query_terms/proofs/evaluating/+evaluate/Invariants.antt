-- Each part of an expression is smaller; an expression stands over its operator's own function.
use Rattle.std.proofs.Common.{◌≡◌, ◌+◌, ◌*◌, drop, map}
use Rattle.sqlval.specs.Fields.{value_of}
use Rattle.query_terms.specs.Terms.{terms, size, size_in}
use Rattle.query_terms.specs.Rows.{at_each, datum, picked_rows, seen}
use Rattle.query_terms.specs.Values.{first_value, value_among}
use Rattle.query_terms.proofs.Among.{together}
use Rattle.query_terms.proofs.Groups.{onto}
use Rattle.query_terms.proofs.evaluating.+evaluate.Given as goal

abbrev pub decreases-evaluate : goal.decreases-evaluate
decreases-evaluate l = size l.term.now * 8

abbrev pub decreases-holds : goal.decreases-holds
decreases-holds l = size l.term.now * 8 + 2

abbrev pub decreases-value_holds : goal.decreases-value_holds
decreases-value_holds l = size l.term.now * 8 + 1

abbrev pub decreases-of_one : goal.decreases-of_one
decreases-of_one l = size l.operand.now * 8 + 3

abbrev pub decreases-minus : goal.decreases-minus
decreases-minus l = size l.operand.now * 8 + 2

abbrev pub decreases-joined : goal.decreases-joined
decreases-joined l = (size l.left.now + size l.right.now) * 8 + 3

abbrev pub decreases-both : goal.decreases-both
decreases-both l = (size l.left.now + size l.right.now) * 8 + 2

abbrev pub decreases-identity : goal.decreases-identity
decreases-identity l = (size l.left.now + size l.right.now) * 8 + 3

abbrev pub decreases-of_two : goal.decreases-of_two
decreases-of_two l = (size l.left.now + size l.right.now) * 8 + 4

abbrev pub decreases-found_among : goal.decreases-found_among
decreases-found_among l = size_in (terms l.list.now) * 8 + 2

abbrev pub decreases-among : goal.decreases-among
decreases-among l = (size l.operand.now + size_in (terms l.list.now)) * 8 + 3

abbrev pub decreases-equals : goal.decreases-equals
decreases-equals l = size l.term.now * 8 + 2

abbrev pub decreases-within : goal.decreases-within
decreases-within l = (size l.low.now + size l.high.now) * 8 + 2

abbrev pub decreases-between : goal.decreases-between
decreases-between l = (size l.operand.now + size l.low.now + size l.high.now) * 8 + 3

abbrev pub decreases-side : goal.decreases-side
decreases-side l = size l.term.now * 8 + 1

abbrev pub decreases-first_argument : goal.decreases-first_argument
decreases-first_argument l = size_in (terms l.list.now) * 8 + 1

abbrev pub decreases-first_value : goal.decreases-first_value
decreases-first_value l = size_in (terms l.list.now) * 8 + 1

abbrev pub decreases-call : goal.decreases-call
decreases-call l = size_in (terms l.list.now) * 8 + 3

-- what is left decides
abbrev pub invariant-first_value-terms : goal.invariant-first_value-terms
invariant-first_value-terms l = first_value (terms (drop l.term-index l.list)) (seen l.env) ≡ first_value (terms l.list) (seen l.env)

-- what was found so far, together with what is left, decides
abbrev pub invariant-found_among-terms : goal.invariant-found_among-terms
invariant-found_among-terms l =
    together l.so_far (value_among l.operand (value_of l.value) (terms (drop l.term-index l.list)) (seen l.env)) ≡ value_among l.operand (value_of l.value) (terms l.list) (seen l.env)

abbrev pub decreases-total : goal.decreases-total
decreases-total l = size l.argument.now * 8 + 3

abbrev pub decreases-values_of_group : goal.decreases-values_of_group
decreases-values_of_group l = size l.term.now * 8 + 1

-- what is left of the group decides
abbrev pub invariant-values_of_group-rows : goal.invariant-values_of_group-rows
invariant-values_of_group-rows l =
    onto (map datum l.found.items) (at_each l.term (map (picked_rows l.env.sources.now) (drop l.picked-index l.env.group.now))) ≡ at_each l.term (seen l.env).group
