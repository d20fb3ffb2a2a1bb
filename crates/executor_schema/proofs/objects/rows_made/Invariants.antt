-- the values of the rows so far
use Rattle.std.proofs.Common.{◌≡◌, map, take}
use Rattle.row_scan.specs.Rows.{values_of}
use Rattle.executor_schema.proofs.objects.rows_made.Given as goal

abbrev pub invariant-rows : goal.invariant-rows
invariant-rows l = map values_of l.rows.items ≡ map (λ row. row.values) (take l.row-index l.found)
