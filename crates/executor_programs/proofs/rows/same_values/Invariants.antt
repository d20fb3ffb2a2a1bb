-- what is left of both decides
use Rattle.std.proofs.Common.{◌≡◌, length}
use Rattle.std.specs.Cmp.Lexicographic.{pointwise}
use Rattle.sqlval.specs.Sameness.{is_same_value}
use Rattle.executor_programs.proofs.rows.same_values.Given as goal

abbrev pub invariant-pairs : goal.invariant-pairs
invariant-pairs l = pointwise is_same_value l.first l.second ≡ pointwise is_same_value l.left l.right

abbrev pub decreases-pairs : goal.decreases-pairs
decreases-pairs l = length l.first
