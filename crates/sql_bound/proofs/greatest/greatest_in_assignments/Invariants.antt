-- the greatest so far or the greatest of the rest
use Rattle.std.proofs.Common.{◌≡◌, max, drop}
use Rattle.sql_syntax.specs.declared.change.Assignment.{Assignment}
use Rattle.sql_bound.specs.Greatest.{greatest_in, greatest_of}
use Rattle.sql_bound.proofs.greatest.greatest_in_assignments.Given as goal

abbrev pub invariant-assignments : goal.invariant-assignments
invariant-assignments l = max l.greatest (greatest_of (λ (assignment : Assignment). greatest_in assignment.value) (drop l.assignment-index l.assignments)) ≡ greatest_of (λ (assignment : Assignment). greatest_in assignment.value) l.assignments
