-- what is left of the sources is looked through still
use Rattle.std.proofs.Common.{◌≡◌, ◌++◌, drop}
use Rattle.query_names.specs.Scopes.{found}
use Rattle.query_names.proofs.columns.columns_found.Given as goal

abbrev pub invariant-sources : goal.invariant-sources
invariant-sources l = l.found.items ++ found l.number l.source l.name (drop l.number l.scope) ≡ found 0 l.source l.name l.scope
