-- the names of the columns so far
use Rattle.std.proofs.Common.{◌≡◌, map, take}
use Rattle.executor_schema.proofs.columns.names_of.Given as goal

abbrev pub invariant-columns : goal.invariant-columns
invariant-columns l = l.names.items ≡ map (λ column. column.name) (take l.column-index l.columns)
