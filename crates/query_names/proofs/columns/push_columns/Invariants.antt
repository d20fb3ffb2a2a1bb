-- what is left of the columns is looked through still
use Rattle.std.proofs.Common.{◌≡◌, ◌++◌, drop}
use Rattle.query_names.specs.Scopes.{named_from}
use Rattle.query_names.proofs.columns.push_columns.Given as goal

abbrev pub invariant-columns : goal.invariant-columns
invariant-columns l = l.found.items ++ named_from l.number l.place l.name (drop l.place l.columns) ≡ l.fn.found.items ++ named_from l.number 0 l.name l.columns
