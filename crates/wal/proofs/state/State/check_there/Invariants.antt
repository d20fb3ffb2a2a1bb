use Rattle.wal.specs.Copying.{AreReached}
use Rattle.wal.proofs.state.State.check_there.Given as goal

abbrev pub invariant-numbers : goal.invariant-numbers
invariant-numbers l = AreReached l.self l.mark l.i l.self.db_len
