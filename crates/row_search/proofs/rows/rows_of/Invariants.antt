-- the rows of the rowids so far
use Rattle.row_search.proofs.Sought.{AreLoaded}
use Rattle.row_search.proofs.rows.rows_of.Given as goal

abbrev pub invariant-rowids : goal.invariant-rowids
invariant-rowids g l =
    AreLoaded g.P.Pages.below g.P.Pages.tells g.P.Pages.limits g.P.Pages.map g.P.Pages.count g.P.Pages.failures l.fn.pages l.pages l.fn.table l.rowids l.rows.items l.rowid-index
