-- what the rows up to here tell is listed
use Rattle.catalog.specs.Listed.{listed_in}
use Rattle.db_load.proofs.TreeTables.{HasLoaded, places_from}
use Rattle.db_load.proofs.tree.add_rows.Given as goal

abbrev pub invariant-batches : goal.invariant-batches
invariant-batches g l =
    HasLoaded g.P.Pages.below g.P.Pages.tells g.P.Pages.limits g.P.Pages.map g.P.Pages.count g.P.Pages.failures l.tables l.size l.fn.pages l.pages l.cursor.root l.cursor.next
    (listed_in l.fn.catalog) (listed_in l.catalog)

abbrev pub decreases-batches : goal.decreases-batches
decreases-batches g l = places_from l.cursor.next
