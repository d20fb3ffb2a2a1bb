use Rattle.engine.proofs.Crashed.{crash_keeps}
use Rattle.engine.proofs.laws.crash_keeps_commits.Goals as goal

pub returns : goal.returns
returns g c = crash_keeps _ _
