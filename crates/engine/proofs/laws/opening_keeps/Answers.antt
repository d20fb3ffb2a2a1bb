use Rattle.engine.proofs.Crashed.{keeps_in_opening}
use Rattle.engine.proofs.laws.opening_keeps.Goals as goal

pub returns : goal.returns
returns g c = keeps_in_opening c.args._db.now c.args._log.now c.args._opened.now
