use Rattle.std.proofs.Common.{◌≡◌, ◌++◌, length}
use Rattle.shell.specs.Boxes as spec
use Rattle.shell.proofs.boxes.widened.Given as goal

abbrev pub invariant-columns : goal.invariant-columns
invariant-columns l = l.found.items ++ spec.widened l.widths l.values ≡ spec.widened l.initial.widths l.initial.values

abbrev pub decreases-columns : goal.decreases-columns
decreases-columns l = length l.widths
