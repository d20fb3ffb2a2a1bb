use Rattle.engine.proofs.Served.{IsServing}
use Rattle.engine.proofs.opening.Engine.serve.Given as goal

abbrev pub invariant-lines : goal.invariant-lines
invariant-lines g l = IsServing l.initial.self (g.I.Read.remaining l.initial.input) (g.I.Read.remaining l.input) (g.O.Write.contents l.initial.output) (g.O.Write.contents l.output) l.self
