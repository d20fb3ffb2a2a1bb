use Rattle.engine.proofs.Crashed.{runs_keep}
use Rattle.engine.proofs.laws.crash_keeps_runs.Goals as goal

pub returns : goal.returns
returns g c = runs_keep _ _
