-- each source so far is copied
use Rattle.std.proofs.Common.{◌≡◌, map, take}
use Rattle.sql_bound.specs.Bound.{bound_join}
use Rattle.sql_bound.proofs.queries.bound_joins.Given as goal

abbrev pub invariant-joins : goal.invariant-joins
invariant-joins l = l.copies.items ≡ map (bound_join l.values) (take l.join-index l.joins)
