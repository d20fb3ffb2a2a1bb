use Rattle.std.proofs.Common.{◌≡◌, ◌<◌, ◌+◌, ℕ, None, get_or}
use Rattle.wal_index.proofs.marks.Marks.is_alone.Given as goal

-- no other of the first connections has a mark
abbrev pub invariant-marks : goal.invariant-marks
invariant-marks l = (k : ℕ) → k < l.i → (k + 1 ≡ l.connection → ⊥) → get_or l.self.marks k None ≡ None
