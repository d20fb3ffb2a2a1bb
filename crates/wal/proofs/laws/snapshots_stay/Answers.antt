use Rattle.wal.proofs.Views.{seen_stays}
use Rattle.wal.proofs.laws.snapshots_stay.Goals as goal

pub returns : goal.returns
returns c = seen_stays
