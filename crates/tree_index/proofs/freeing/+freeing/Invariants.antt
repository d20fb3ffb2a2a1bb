use Rattle.std.proofs.Common.{◌+◌, ◌*◌}
use Rattle.tree_index.proofs.Clearing.{HasGivenKids}
use Rattle.tree_index.proofs.freeing.+freeing.Given as goal

abbrev pub decreases-free_below : goal.decreases-free_below
decreases-free_below g l = 2 * l.ways + 1

abbrev pub decreases-free_kids : goal.decreases-free_kids
decreases-free_kids g l = 2 * l.ways

abbrev pub invariant-free_kids-kids : goal.invariant-free_kids-kids
invariant-free_kids-kids g l = HasGivenKids g.P.Pages.below g.P.Pages.tells g.P.Pages.limits g.P.Pages.map g.P.Pages.failures l.fn.pages l.pages l.number l.ways l.count l.place
