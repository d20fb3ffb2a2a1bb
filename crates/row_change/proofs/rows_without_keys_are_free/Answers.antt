use Rattle.row_change.proofs.Updates.{sets_as_each}
use Rattle.row_change.proofs.rows_without_keys_are_free.Goals as goal

pub returns : goal.returns
returns c = sets_as_each
