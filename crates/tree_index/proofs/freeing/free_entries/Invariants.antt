use Rattle.tree_index.proofs.Givings.{HasGivenEntries}
use Rattle.tree_index.proofs.freeing.free_entries.Given as goal

abbrev pub invariant-entries : goal.invariant-entries
invariant-entries g l = HasGivenEntries g.P.Pages.below g.P.Pages.tells g.P.Pages.limits g.P.Pages.map g.P.Pages.failures l.fn.pages l.pages l.number l.len l.place
