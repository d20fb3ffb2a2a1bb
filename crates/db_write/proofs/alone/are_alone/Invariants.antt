-- the pages stay, and what is left of the indexes decides
use Rattle.std.proofs.Common.{IsTrue, drop, map}
use Rattle.pages.specs.Calls.{Stays}
use Rattle.index_entries.specs.Keeping.{row_in}
use Rattle.db_write.proofs.LookedAt.{IndexesOn, unrefused}
use Rattle.db_write.proofs.alone.are_alone.Given as goal

abbrev pub invariant-indexes : goal.invariant-indexes
invariant-indexes g l =
    Stays g.P.Pages.below g.P.Pages.map g.P.Pages.count g.P.Pages.failures unrefused l.fn.pages l.pages
    × (IsTrue (g.P.Pages.tells (g.P.Pages.below l.fn.pages))
    → IndexesOn (g.P.Pages.map l.fn.pages) (g.P.Pages.limits (g.P.Pages.below l.fn.pages)).page l.indexes (map row_in l.rows) (drop l.index-index l.indexes))
