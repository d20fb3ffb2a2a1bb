use Rattle.std.proofs.Common.{◌≡◌, map, drop}
use Rattle.shell.specs.Fields.{row_values}
use Rattle.shell.specs.Boxes.{all_widened}
use Rattle.shell.proofs.boxes.column_widths.Given as goal

abbrev pub invariant-rows : goal.invariant-rows
invariant-rows l = all_widened l.widths.items (map row_values (drop l.row-index l.rows)) ≡ all_widened l.initial.widths.items (map row_values l.rows)
