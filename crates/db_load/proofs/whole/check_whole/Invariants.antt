-- the pages up to here are whole
use Rattle.db_load.proofs.WholePages.{HasRead}
use Rattle.db_load.proofs.whole.check_whole.Given as goal

abbrev pub invariant-numbers : goal.invariant-numbers
invariant-numbers g l = HasRead g.P.Pages.below g.P.Pages.tells g.P.Pages.limits g.P.Pages.map g.P.Pages.count g.P.Pages.failures l.fn.pages l.pages l.place
