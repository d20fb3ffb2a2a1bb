use Rattle.engine.proofs.Crashed.{keeps_in_creating}
use Rattle.engine.proofs.laws.creating_keeps.Goals as goal

pub returns : goal.returns
returns g c = keeps_in_creating _ c.args._db.now c.args._log.now c.args._new_db.now c.args._new_log.now
