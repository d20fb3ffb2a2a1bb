-- the sources that are left come after those that were looked at
use Rattle.std.proofs.Common.{◌≡◌, ◌++◌, drop, true}
use Rattle.query_names.specs.Queries.{stars_from}
use Rattle.query_bind.proofs.results.push_all.Given as goal

abbrev pub invariant-sources : goal.invariant-sources
invariant-sources l = l.found.items ++ stars_from l.number (λ n. true) (drop l.number l.scope) ≡ l.fn.found.items ++ stars_from 0 (λ n. true) l.scope
