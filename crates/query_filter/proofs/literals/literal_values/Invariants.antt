-- the literals so far
use Rattle.std.proofs.Common.{◌≡◌, map, take, true}
use Rattle.query_filter.specs.Literals.{are_plain, literal_value}
use Rattle.query_filter.proofs.literals.literal_values.Given as goal

abbrev pub invariant-terms : goal.invariant-terms
invariant-terms l = (l.values.items ≡ map literal_value (take l.term-index l.list)) × (are_plain l.affinity (take l.term-index l.list) ≡ true)
