use Rattle.query_answer.proofs.Needed.{needed}
use Rattle.query_answer.proofs.searches_as_scans.Goals as goal

pub returns : goal.returns
returns c = needed c.other_rows_fail.ensures
