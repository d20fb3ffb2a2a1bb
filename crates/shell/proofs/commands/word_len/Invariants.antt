use Rattle.std.proofs.Common.{◌≡◌, ◌+◌, ◌-◌, ◌≤◌, length, drop}
use Rattle.shell.specs.Commands as spec
use Rattle.shell.proofs.commands.word_len.Given as goal

abbrev pub invariant-bytes : goal.invariant-bytes
invariant-bytes l = (l.end + spec.word_len (drop l.end l.line) ≡ spec.word_len l.line) × (l.end ≤ length l.line)

abbrev pub decreases-bytes : goal.decreases-bytes
decreases-bytes l = length l.line - l.end
