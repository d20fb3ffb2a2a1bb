-- the pages stay, and what is left of the indexes decides
use Rattle.std.proofs.Common.{IsTrue, drop}
use Rattle.pages.specs.Calls.{Stays}
use Rattle.db_write.proofs.LookedAt.{unrefused}
use Rattle.db_write.proofs.SeenApart.{ApartOn}
use Rattle.db_write.proofs.alone.all_keys_are_apart.Given as goal

abbrev pub invariant-indexes : goal.invariant-indexes
invariant-indexes g l =
    Stays g.P.Pages.below g.P.Pages.map g.P.Pages.count g.P.Pages.failures unrefused l.fn.pages l.pages
    × (IsTrue (g.P.Pages.tells (g.P.Pages.below l.fn.pages))
    → ApartOn (g.P.Pages.map l.fn.pages) (g.P.Pages.limits (g.P.Pages.below l.fn.pages)).page l.indexes (drop l.index-index l.indexes))
