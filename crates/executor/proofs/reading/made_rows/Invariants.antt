use Rattle.std.specs.Prelude.{◌≡◌, map}
use Rattle.query_names.specs.Views.{plain_rows}
use Rattle.row_scan.specs.Rows.{values_of}
use Rattle.executor.proofs.reading.made_rows.Given as goal

-- the rows so far are made
abbrev pub invariant-rows : goal.invariant-rows
invariant-rows l = l.made.items ≡ plain_rows (map values_of l.yielded)
