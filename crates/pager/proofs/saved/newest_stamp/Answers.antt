use Rattle.std.proofs.Common.{arith}
use Rattle.pager.proofs.Undoing.{newest_last}
use Rattle.pager.proofs.saved.newest_stamp.Goals as goal

pub returns-in-len1-up : goal.returns-in-len1-up
returns-in-len1-up c = newest_last c.args.marks.now _ _ (let some = c.in-len1-up.len_at_least in omega (arith, some))
