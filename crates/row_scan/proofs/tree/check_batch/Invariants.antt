-- the batch has rows up to here
use Rattle.std.proofs.Common.{take}
use Rattle.row_scan.proofs.FitTrees.{HaveRows}
use Rattle.row_scan.proofs.tree.check_batch.Given as goal

abbrev pub invariant-rows : goal.invariant-rows
invariant-rows l = HaveRows l.shape (take l.index l.batch)
