use Rattle.tree_table.proofs.Givings.{HasGivenRows}
use Rattle.tree_table.proofs.freeing.free_rows.Given as goal

abbrev pub invariant-rows : goal.invariant-rows
invariant-rows g l = HasGivenRows g.P.Pages.below g.P.Pages.tells g.P.Pages.limits g.P.Pages.map g.P.Pages.failures l.fn.pages l.pages l.leaf l.len l.place
