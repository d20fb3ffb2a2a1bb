-- each term so far is copied
use Rattle.std.proofs.Common.{◌≡◌, map, take}
use Rattle.sql_bound.specs.Bound.{bound_order}
use Rattle.sql_bound.proofs.queries.bound_orders.Given as goal

abbrev pub invariant-terms : goal.invariant-terms
invariant-terms l = l.copies.items ≡ map (bound_order l.values) (take l.term-index l.terms)
