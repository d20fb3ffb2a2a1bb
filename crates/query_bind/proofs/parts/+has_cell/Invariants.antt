-- Each part of a term is smaller.
use Rattle.std.proofs.Common.{◌≡◌, ◌≤◌, ◌+◌, ◌*◌, false, length}
use Rattle.query_terms.specs.Terms.{size, size_in, terms}
use Rattle.query_names.specs.Grouping.{has_in, is_own_cell}
use Rattle.query_bind.proofs.parts.+has_cell.Given as goal

abbrev pub decreases-has_cell : goal.decreases-has_cell
decreases-has_cell l = size l.term.now * 2

abbrev pub decreases-either_has_cell : goal.decreases-either_has_cell
decreases-either_has_cell l = (size l.left.now + size l.right.now) * 2 + 1

abbrev pub decreases-any_has_cell : goal.decreases-any_has_cell
decreases-any_has_cell l = size_in (terms l.list.now) * 2

-- what is left of the list decides
abbrev pub invariant-any_has_cell-terms : goal.invariant-any_has_cell-terms
invariant-any_has_cell-terms l =
    (has_in false (is_own_cell l.outer) (terms l.rest) ≡ has_in false (is_own_cell l.outer) (terms l.list)) × (size_in (terms l.rest) ≤ size_in (terms l.list))

abbrev pub decreases-any_has_cell-terms : goal.decreases-any_has_cell-terms
decreases-any_has_cell-terms l = length l.rest
