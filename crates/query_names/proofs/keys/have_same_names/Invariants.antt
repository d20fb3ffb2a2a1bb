use Rattle.std.proofs.Common.{◌≡◌, length}
use Rattle.std.specs.Cmp.Lexicographic.{pointwise}
use Rattle.sqlval.specs.Names.{is_same_name}
use Rattle.query_names.proofs.keys.have_same_names.Given as goal

-- what is left decides
abbrev pub invariant-names : goal.invariant-names
invariant-names l = pointwise is_same_name l.left l.right ≡ pointwise is_same_name l.names l.others

abbrev pub decreases-names : goal.decreases-names
decreases-names l = length l.left
