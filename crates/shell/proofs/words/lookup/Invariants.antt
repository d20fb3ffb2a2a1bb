use Rattle.std.proofs.Common.{◌≡◌, length, map}
use Rattle.shell.specs.Commands as spec
use Rattle.shell.proofs.words.lookup.Given as goal

abbrev pub invariant-entries : goal.invariant-entries
invariant-entries g l = spec.in_table (map (λ k. (k.0.now, k.1)) l.table) l.word ≡ spec.in_table (map (λ k. (k.0.now, k.1)) l.initial.table) l.word

abbrev pub decreases-entries : goal.decreases-entries
decreases-entries g l = length l.table
