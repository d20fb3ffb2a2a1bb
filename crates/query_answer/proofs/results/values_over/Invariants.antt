-- what is left of the expressions decides
use Rattle.std.proofs.Common.{◌≡◌, drop}
use Rattle.query_terms.specs.Rows.{seen}
use Rattle.query_terms.specs.Values.{value}
use Rattle.query_names.specs.Readings.{values}
use Rattle.query_terms.proofs.InOrder.{left}
use Rattle.query_answer.proofs.results.values_over.Given as goal

abbrev pub invariant-terms : goal.invariant-terms
invariant-terms l = left (λ t. value t (seen l.env)) (drop l.term-index l.terms) l.values.items ≡ values (seen l.env) l.terms
