use Rattle.std.proofs.Common.{◌≡◌, ◌++◌, replicate}
use Rattle.shell.proofs.bytes.put_times.Given as goal

abbrev pub invariant-times : goal.invariant-times
invariant-times l = l.out.items ≡ l.initial.out.items ++ replicate l.counter l.byte
