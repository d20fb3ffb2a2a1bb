-- the columns that are left come after those that were found
use Rattle.std.proofs.Common.{◌≡◌, ◌++◌, drop}
use Rattle.query_names.specs.Queries.{cells_from}
use Rattle.query_bind.proofs.results.push_cells.Given as goal

abbrev pub invariant-columns : goal.invariant-columns
invariant-columns l = l.found.items ++ cells_from l.number l.place (drop l.place l.columns) ≡ l.fn.found.items ++ cells_from l.number 0 l.columns
