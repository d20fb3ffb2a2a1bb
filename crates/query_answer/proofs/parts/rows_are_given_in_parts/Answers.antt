use Rattle.query_answer.proofs.PartRows.{stay_refused}
use Rattle.query_answer.proofs.parts.rows_are_given_in_parts.Goals as goal

pub returns : goal.returns
returns c = stay_refused
