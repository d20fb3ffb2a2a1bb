use Rattle.std.proofs.Common.{length, ◌-◌, ◌≤◌, All, take}
use Rattle.engine.specs.Lines.{IsNoLineFeed}
use Rattle.engine.proofs.lines.line_end.Given as goal

abbrev pub invariant-bytes : goal.invariant-bytes
invariant-bytes l = (l.at ≤ length l.shown) × All IsNoLineFeed (take l.at l.shown)

abbrev pub decreases-bytes : goal.decreases-bytes
decreases-bytes l = length l.shown - l.at
