use Rattle.executor.proofs.StoredAgain.{stored_stay}
use Rattle.executor.proofs.rows.stored_values_stay.Goals as goal

pub returns : goal.returns
returns c = stored_stay
