-- Each part of an expression is smaller.
use Rattle.std.proofs.Common.{◌≡◌, ◌≤◌, length}
use Rattle.query_terms.specs.Terms.{same_terms, size, size_in, terms}
use Rattle.query_terms.proofs.sameness.+is_same.Given as goal

abbrev pub decreases-is_same : goal.decreases-is_same
decreases-is_same l = size l.left.now

abbrev pub decreases-are_same : goal.decreases-are_same
decreases-are_same l = size_in (terms l.left.now)

-- what is left of both decides
abbrev pub invariant-are_same-pairs : goal.invariant-are_same-pairs
invariant-are_same-pairs l =
    (same_terms (terms l.first) (terms l.second) ≡ same_terms (terms l.left) (terms l.right)) × (size_in (terms l.first) ≤ size_in (terms l.left))

abbrev pub decreases-are_same-pairs : goal.decreases-are_same-pairs
decreases-are_same-pairs l = length l.first
