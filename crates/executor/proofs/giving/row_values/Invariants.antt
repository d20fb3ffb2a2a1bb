-- what is left of the terms decides
use Rattle.std.proofs.Common.{◌≡◌, [], drop}
use Rattle.query_terms.specs.Values.{value}
use Rattle.query_names.specs.Readings.{env_of, values}
use Rattle.query_terms.proofs.InOrder.{left}
use Rattle.executor.proofs.giving.row_values.Given as goal

abbrev pub invariant-terms : goal.invariant-terms
invariant-terms l = left (λ t. value t (env_of [])) (drop l.term-index l.terms) l.row.items ≡ values (env_of []) l.terms
