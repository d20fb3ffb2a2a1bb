use Rattle.query_plan.proofs.Unfound.{other_rows_fail}
use Rattle.query_plan.proofs.other_rows_fail.Goals as goal

pub returns : goal.returns
returns c = other_rows_fail
