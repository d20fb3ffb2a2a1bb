use Rattle.engine.specs.Serving.{HasWritten}
use Rattle.engine.proofs.serving.write_text.Given as goal

abbrev pub invariant-writes : goal.invariant-writes
invariant-writes g l = HasWritten (g.O.Write.contents l.initial.output) (g.O.Write.contents l.output) l.text l.rest
