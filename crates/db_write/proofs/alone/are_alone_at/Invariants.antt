-- the pages stay, and what is left of the rows decides
use Rattle.std.proofs.Common.{IsTrue, drop, map}
use Rattle.pages.specs.Calls.{Stays}
use Rattle.index_entries.specs.Keeping.{row_in}
use Rattle.db_write.proofs.LookedAt.{RowsOn, unrefused}
use Rattle.db_write.proofs.alone.are_alone_at.Given as goal

abbrev pub invariant-rows : goal.invariant-rows
invariant-rows g l =
    Stays g.P.Pages.below g.P.Pages.map g.P.Pages.count g.P.Pages.failures unrefused l.fn.pages l.pages
    × (IsTrue (g.P.Pages.tells (g.P.Pages.below l.fn.pages))
    → RowsOn (g.P.Pages.map l.fn.pages) (g.P.Pages.limits (g.P.Pages.below l.fn.pages)).page l.index (map row_in l.rows) (map row_in (drop l.row-index l.rows)))
