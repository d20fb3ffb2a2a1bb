-- the copies of the rows so far
use Rattle.std.proofs.Common.{◌≡◌, take}
use Rattle.executor_programs.proofs.outer.rows_copy.Given as goal

abbrev pub invariant-rows : goal.invariant-rows
invariant-rows l = l.copies ≡ take l.row-index l.rows
