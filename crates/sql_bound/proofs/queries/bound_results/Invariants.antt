-- each result so far is copied
use Rattle.std.proofs.Common.{◌≡◌, map, take}
use Rattle.sql_bound.specs.Bound.{bound_result}
use Rattle.sql_bound.proofs.queries.bound_results.Given as goal

abbrev pub invariant-results : goal.invariant-results
invariant-results l = l.copies.items ≡ map (bound_result l.values) (take l.item-index l.results)
