use Rattle.std.proofs.Common.{◌≡◌, ◌++◌, map, take}
use Rattle.std.specs.List.{flat_map}
use Rattle.engine.specs.Output.{row_line}
use Rattle.engine.specs.Replies.{values_of}
use Rattle.engine.proofs.output.put_rows.Given as goal

abbrev pub invariant-rows : goal.invariant-rows
invariant-rows l = l.out.items ≡ l.initial.out.items ++ flat_map row_line (map values_of (take l.row-index l.rows))
