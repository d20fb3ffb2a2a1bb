use Rattle.engine.proofs.Crashed.{keeps_in_converting}
use Rattle.engine.proofs.laws.converting_keeps.Goals as goal

pub returns : goal.returns
returns g c = keeps_in_converting c.args._db.now c.args._log.now c.args._new_db.now c.args._new_log.now
