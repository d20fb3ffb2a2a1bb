-- the rows at the places up to here were freed
use Rattle.tree_table.proofs.RunFrees.{HasFreed}
use Rattle.tree_table.proofs.runs.free_run.Given as goal

abbrev pub invariant-places : goal.invariant-places
invariant-places g l = HasFreed g.P.Pages.below g.P.Pages.tells g.P.Pages.limits g.P.Pages.map g.P.Pages.failures l.fn.pages l.pages l.leaf l.places l.place-index
