use Rattle.query_names.proofs.Plain.{comprehension}
use Rattle.query_names.proofs.plain_query_is_a_comprehension.Goals as goal

pub returns : goal.returns
returns c = comprehension
