-- what is left of the expressions decides
use Rattle.std.proofs.Common.{◌≡◌, drop, map}
use Rattle.query_terms.specs.Rows.{seen}
use Rattle.query_terms.specs.Values.{value}
use Rattle.query_names.specs.Readings.{values}
use Rattle.query_terms.proofs.InOrder.{left}
use Rattle.query_answer.proofs.results.order_values.Given as goal

abbrev pub invariant-terms : goal.invariant-terms
invariant-terms l = left (λ t. value t (seen l.env)) (map (λ o. o.0) (drop l.term-index l.order)) l.values.items ≡ values (seen l.env) (map (λ o. o.0) l.order)
