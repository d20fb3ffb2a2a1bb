-- what is left decides
use Rattle.std.proofs.Common.{◌≡◌, drop, map}
use Rattle.query_terms.specs.Terms.{terms}
use Rattle.query_terms.specs.Rows.{seen}
use Rattle.query_answer.specs.Checks.{checked_in}
use Rattle.query_answer.proofs.arguments.check_order.Given as goal

abbrev pub invariant-terms : goal.invariant-terms
invariant-terms l = checked_in (terms (map (λ o. o.0) (drop l.term-index l.order))) (seen l.env) ≡ checked_in (terms (map (λ o. o.0) l.order)) (seen l.env)
