use Rattle.std.proofs.Common.{◌≡◌, ◌≤◌, ◌-◌, ◌++◌, length, take, drop}
use Rattle.std.specs.Prelude.{vec_capacity}
use Rattle.pager.specs.Undo.{needed}
use Rattle.pager.proofs.saved.leave_out.Given as goal

abbrev pub invariant-saved : goal.invariant-saved
invariant-saved l = record {
  low : l.to ≤ l.at;
  high : l.at ≤ length l.saved.items;
  capacity : vec_capacity l.saved ≡ vec_capacity l.fn.saved;
  same : take l.to l.saved.items ++ needed l.limit (drop l.at l.saved.items) ≡ take l.from l.fn.saved.items ++ needed l.limit (drop l.from l.fn.saved.items);
}

abbrev pub decreases-saved : goal.decreases-saved
decreases-saved l = length l.saved.items - l.at
