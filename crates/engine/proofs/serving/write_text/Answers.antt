use Rattle.engine.proofs.Served.{writes_on}
use Rattle.engine.proofs.serving.write_text.Goals as goal

pub writes-preserved : goal.writes-preserved
writes-preserved g c = writes_on _ _ _ _ _ _ c.writes.invariant c.in_ok-rest.ensures.written
