use Rattle.engine.proofs.LineReading.{IsBegun}
use Rattle.engine.proofs.lines.read_line.Given as goal

abbrev pub invariant-parts : goal.invariant-parts
invariant-parts g l = IsBegun (g.I.Read.remaining l.initial.input) (g.I.Read.remaining l.input) l.line.items
