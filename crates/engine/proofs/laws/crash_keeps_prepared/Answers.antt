use Rattle.engine.proofs.Crashed.{prepared_keep}
use Rattle.engine.proofs.laws.crash_keeps_prepared.Goals as goal

pub returns : goal.returns
returns g c = prepared_keep _ _
