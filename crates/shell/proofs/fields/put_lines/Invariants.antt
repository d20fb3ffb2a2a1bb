use Rattle.std.proofs.Common.{◌≡◌, ◌++◌, map, take}
use Rattle.std.specs.List.{flat_map}
use Rattle.shell.specs.Fields.{row_fields, row_values}
use Rattle.shell.proofs.fields.put_lines.Given as goal

abbrev pub invariant-rows : goal.invariant-rows
invariant-rows l = l.out.items ≡ l.initial.out.items ++ flat_map (row_fields l.style) (map row_values (take l.row-index l.rows))
