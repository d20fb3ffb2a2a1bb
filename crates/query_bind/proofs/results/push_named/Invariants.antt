-- the sources that are left come after those that were looked at
use Rattle.std.proofs.Common.{◌≡◌, ◌++◌, drop}
use Rattle.sqlval.specs.Names.{folded, is_same_name}
use Rattle.query_names.specs.Queries.{stars_from}
use Rattle.query_bind.proofs.results.push_named.Given as goal

abbrev pub invariant-sources : goal.invariant-sources
invariant-sources l =
    l.found.items ++ stars_from l.number (is_same_name (folded l.name)) (drop l.number l.scope) ≡ l.fn.found.items ++ stars_from 0 (is_same_name (folded l.name)) l.scope
