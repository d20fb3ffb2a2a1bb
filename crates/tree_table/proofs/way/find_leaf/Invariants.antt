use Rattle.tree_table.proofs.Coming.{HasCome}
use Rattle.tree_table.proofs.way.find_leaf.Given as goal

abbrev pub invariant-levels : goal.invariant-levels
invariant-levels g l = HasCome g.P.Pages.below g.P.Pages.tells g.P.Pages.limits g.P.Pages.map g.P.Pages.count g.P.Pages.failures l.fn.pages l.pages l.fn.root l.fn.rowid l.counter l.way
