-- Each part of a term is smaller.
use Rattle.std.proofs.Common.{◌≡◌, ◌≤◌, true, length}
use Rattle.query_terms.specs.Terms.{size, size_in, terms}
use Rattle.query_names.specs.Grouping.{has_in, is_total}
use Rattle.query_bind.proofs.parts.+has_total.Given as goal

abbrev pub decreases-has_total : goal.decreases-has_total
decreases-has_total l = size l.term.now

abbrev pub decreases-any_has_total : goal.decreases-any_has_total
decreases-any_has_total l = size_in (terms l.list.now)

-- what is left of the list decides
abbrev pub invariant-any_has_total-terms : goal.invariant-any_has_total-terms
invariant-any_has_total-terms l =
    (has_in true is_total (terms l.rest) ≡ has_in true is_total (terms l.list)) × (size_in (terms l.rest) ≤ size_in (terms l.list))

abbrev pub decreases-any_has_total-terms : goal.decreases-any_has_total-terms
decreases-any_has_total-terms l = length l.rest
