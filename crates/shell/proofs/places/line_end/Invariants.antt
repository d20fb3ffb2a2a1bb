use Rattle.std.proofs.Common.{◌≢◌, ℕ, ◌-◌, ◌<◌, ◌≤◌, length, get_or}
use Rattle.shell.proofs.places.line_end.Given as goal

abbrev pub invariant-bytes : goal.invariant-bytes
invariant-bytes l = (l.at ≤ l.end) × (l.end ≤ length l.text) × ((k : ℕ) → l.at ≤ k → k < l.end → get_or l.text k 0 ≢ 10)

abbrev pub decreases-bytes : goal.decreases-bytes
decreases-bytes l = length l.text - l.end
