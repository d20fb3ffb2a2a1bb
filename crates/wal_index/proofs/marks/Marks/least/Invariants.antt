use Rattle.wal_index.proofs.Sixteen.{IsLeastOf}
use Rattle.wal_index.proofs.marks.Marks.least.Given as goal

-- the least mark of the first connections
abbrev pub invariant-marks : goal.invariant-marks
invariant-marks l = IsLeastOf l.self.marks l.i l.least
