use Rattle.std.proofs.Common.{◌≡◌, ◌+◌, ◌-◌, ◌≤◌, length, drop}
use Rattle.shell.specs.Refusals.{number_text_len}
use Rattle.shell.proofs.refusals.first_space.Given as goal

abbrev pub invariant-bytes : goal.invariant-bytes
invariant-bytes l = (l.end + number_text_len (drop l.end l.title) ≡ number_text_len l.title) × (l.end ≤ length l.title)

abbrev pub decreases-bytes : goal.decreases-bytes
decreases-bytes l = length l.title - l.end
