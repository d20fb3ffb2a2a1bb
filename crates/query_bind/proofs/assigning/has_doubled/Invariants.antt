use Rattle.std.proofs.Common.{◌≡◌, length}
use Rattle.query_names.specs.Scopes.{is_doubled}
use Rattle.query_bind.specs.Assigned.{columns_set}
use Rattle.query_bind.proofs.assigning.has_doubled.Given as goal

-- what is left decides
abbrev pub invariant-assignments : goal.invariant-assignments
invariant-assignments l = is_doubled (columns_set l.rest) ≡ is_doubled (columns_set l.assignments)

abbrev pub decreases-assignments : goal.decreases-assignments
decreases-assignments l = length l.rest
