use Rattle.row_change.proofs.KeptKeys.{sets_kept_as_each}
use Rattle.row_change.proofs.keeping.kept_rows_stay_alone.Goals as goal

pub returns : goal.returns
returns c = sets_kept_as_each
