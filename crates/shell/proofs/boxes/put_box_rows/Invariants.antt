use Rattle.std.proofs.Common.{◌≡◌, ◌++◌, map, take}
use Rattle.std.specs.List.{flat_map}
use Rattle.shell.specs.Fields.{row_values}
use Rattle.shell.specs.Boxes.{box_row}
use Rattle.shell.proofs.boxes.put_box_rows.Given as goal

abbrev pub invariant-rows : goal.invariant-rows
invariant-rows l = l.out.items ≡ l.initial.out.items ++ flat_map (box_row l.widths) (map row_values (take l.row-index l.rows))
