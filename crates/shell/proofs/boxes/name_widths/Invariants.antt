use Rattle.std.proofs.Common.{◌≡◌, map, take}
use Rattle.shell.specs.Boxes.{name_width}
use Rattle.shell.proofs.boxes.name_widths.Given as goal

abbrev pub invariant-names : goal.invariant-names
invariant-names l = l.found.items ≡ map name_width (take l.name-index l.names)
