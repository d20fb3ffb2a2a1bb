use Rattle.engine.proofs.Crashed.{represented_hold}
use Rattle.engine.proofs.laws.represented_files_hold.Goals as goal

pub returns : goal.returns
returns g c = represented_hold _
