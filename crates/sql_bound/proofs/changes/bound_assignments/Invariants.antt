-- each assignment so far is copied
use Rattle.std.proofs.Common.{◌≡◌, map, take}
use Rattle.sql_bound.specs.Bound.{bound_assignment}
use Rattle.sql_bound.proofs.changes.bound_assignments.Given as goal

abbrev pub invariant-assignments : goal.invariant-assignments
invariant-assignments l = l.copies.items ≡ map (bound_assignment l.values) (take l.assignment-index l.assignments)
