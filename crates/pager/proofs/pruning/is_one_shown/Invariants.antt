-- none of the pages so far is shown
use Rattle.std.proofs.Common.{◌-◌, drop, length}
use Rattle.pager.proofs.NewPages.{HasPassed}
use Rattle.pager.proofs.pruning.is_one_shown.Given as goal

abbrev pub invariant-pages : goal.invariant-pages
invariant-pages g l = HasPassed l.fn.log l.log l.snapshot l.pages.items (drop l.place l.pages.items)

abbrev pub decreases-pages : goal.decreases-pages
decreases-pages g l = length l.pages.items - l.place
