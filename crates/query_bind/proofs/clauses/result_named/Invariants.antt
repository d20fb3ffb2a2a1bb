-- the name is looked for in what is left
use Rattle.std.proofs.Common.{◌≡◌, drop}
use Rattle.query_names.specs.Queries.{as_named}
use Rattle.query_bind.proofs.clauses.result_named.Given as goal

abbrev pub invariant-items : goal.invariant-items
invariant-items l = as_named l.name (drop l.item-index l.items) ≡ as_named l.name l.items
