use Rattle.tree_table.proofs.Clearing.{HasGivenKids}
use Rattle.tree_table.proofs.freeing.+free_below.Given as goal

abbrev pub decreases-free_below : goal.decreases-free_below
decreases-free_below g l = l.ways

abbrev pub invariant-children : goal.invariant-children
invariant-children g l = HasGivenKids g.P.Pages.below g.P.Pages.tells g.P.Pages.limits g.P.Pages.map g.P.Pages.failures l.fn.pages l.pages l.number l.ways l.len l.place
