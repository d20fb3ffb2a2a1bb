-- what is left of the expressions decides
use Rattle.std.proofs.Common.{◌≡◌, drop}
use Rattle.query_terms.specs.Rows.{seen}
use Rattle.query_terms.specs.Values.{value}
use Rattle.query_names.specs.Readings.{values}
use Rattle.query_terms.proofs.InOrder.{left}
use Rattle.query_groups.proofs.taking.keys_at.Given as goal

abbrev pub invariant-terms : goal.invariant-terms
invariant-terms l = left (λ t. value t (seen l.env)) (drop l.term-index l.key_terms) l.keys.items ≡ values (seen l.env) l.key_terms
