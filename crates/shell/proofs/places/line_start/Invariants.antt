use Rattle.std.proofs.Common.{◌≢◌, ℕ, ◌<◌, ◌≤◌, get_or}
use Rattle.shell.proofs.places.line_start.Given as goal

abbrev pub invariant-bytes : goal.invariant-bytes
invariant-bytes l = (l.start ≤ l.at) × ((k : ℕ) → l.start ≤ k → k < l.at → get_or l.text k 0 ≢ 10)

abbrev pub decreases-bytes : goal.decreases-bytes
decreases-bytes l = l.start
