use Rattle.std.proofs.Common.{◌≡◌, ◌++◌, length}
use Rattle.shell.specs.Boxes.{titles}
use Rattle.shell.proofs.boxes.put_names.Given as goal

abbrev pub invariant-columns : goal.invariant-columns
invariant-columns l = l.out.items ++ titles l.widths l.names ≡ l.initial.out.items ++ titles l.initial.widths l.initial.names

abbrev pub decreases-columns : goal.decreases-columns
decreases-columns l = length l.widths
