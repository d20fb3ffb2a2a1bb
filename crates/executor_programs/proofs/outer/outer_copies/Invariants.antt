-- the copies of the lists so far
use Rattle.std.proofs.Common.{◌≡◌, take}
use Rattle.executor_programs.proofs.outer.outer_copies.Given as goal

abbrev pub invariant-rows : goal.invariant-rows
invariant-rows l = l.copies.items ≡ take l.one-index l.rows
