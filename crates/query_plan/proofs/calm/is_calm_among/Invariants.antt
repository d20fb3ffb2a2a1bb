-- what is left decides
use Rattle.std.proofs.Common.{◌≡◌, length}
use Rattle.query_terms.specs.Terms.{terms}
use Rattle.query_names.specs.Calm.{is_calm_among}
use Rattle.query_plan.proofs.calm.is_calm_among.Given as goal

abbrev pub invariant-items : goal.invariant-items
invariant-items l = is_calm_among l.operand (terms l.left) ≡ is_calm_among l.operand (terms l.list)

abbrev pub decreases-items : goal.decreases-items
decreases-items l = length l.left
