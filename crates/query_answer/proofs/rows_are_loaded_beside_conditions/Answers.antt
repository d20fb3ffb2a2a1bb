use Rattle.query_answer.proofs.Loaded.{loads_beside}
use Rattle.query_answer.proofs.rows_are_loaded_beside_conditions.Goals as goal

pub returns : goal.returns
returns c = loads_beside
