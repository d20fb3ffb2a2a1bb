-- those of the pages so far that aren't shown are copied
use Rattle.std.proofs.Common.{◌-◌, drop, length}
use Rattle.pager.proofs.NewPages.{HasCopied}
use Rattle.pager.proofs.pruning.new_pages.Given as goal

abbrev pub invariant-pages : goal.invariant-pages
invariant-pages g l = HasCopied l.fn.log l.log l.snapshot l.pages.items (drop l.place l.pages.items) l.new.items

abbrev pub decreases-pages : goal.decreases-pages
decreases-pages g l = length l.pages.items - l.place
