use Rattle.std.proofs.Common.{◌≡◌, drop}
use Rattle.query_terms.specs.Terms.{terms, size, size_in, written_in}
use Rattle.query_terms.proofs.collating.+written.Given as goal

abbrev pub decreases-written : goal.decreases-written
decreases-written l = size l.term.now

abbrev pub decreases-written_in : goal.decreases-written_in
decreases-written_in l = size_in (terms l.list.now)

-- what is left decides
abbrev pub invariant-written_in-terms : goal.invariant-written_in-terms
invariant-written_in-terms l = written_in (terms (drop l.term-index l.list)) ≡ written_in (terms l.list)
