use Rattle.std.proofs.Common.{◌≡◌, ◌++◌, length}
use Rattle.shell.specs.Boxes.{cells}
use Rattle.shell.proofs.boxes.put_cells.Given as goal

abbrev pub invariant-columns : goal.invariant-columns
invariant-columns l = l.out.items ++ cells l.widths l.values ≡ l.initial.out.items ++ cells l.initial.widths l.initial.values

abbrev pub decreases-columns : goal.decreases-columns
decreases-columns l = length l.widths
