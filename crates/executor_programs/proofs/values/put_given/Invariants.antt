-- what is left of the places and of the values decides
use Rattle.std.proofs.Common.{◌≡◌}
use Rattle.std.specs.Prelude.{zip, length}
use Rattle.row_change.specs.Constraints.{set_values}
use Rattle.executor_programs.proofs.values.put_given.Given as goal

abbrev pub invariant-places : goal.invariant-places
invariant-places l = set_values l.values.items (zip l.left l.more) ≡ set_values l.fn.values.items (zip l.places l.given)

abbrev pub decreases-places : goal.decreases-places
decreases-places l = length l.left
