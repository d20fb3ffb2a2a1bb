use Rattle.engine.proofs.Crashed.{failed_hold}
use Rattle.engine.proofs.laws.failed_files_hold.Goals as goal

pub returns : goal.returns
returns g c = failed_hold _
