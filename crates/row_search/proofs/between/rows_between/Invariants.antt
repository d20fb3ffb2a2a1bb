-- the rows so far, and those that come
use Rattle.row_scan.proofs.TreeAnswers.{places_from}
use Rattle.row_search.proofs.Gathering.{HasGathered}
use Rattle.row_search.proofs.between.rows_between.Given as goal

abbrev pub invariant-leaves : goal.invariant-leaves
invariant-leaves g l =
    HasGathered g.P.Pages.below g.P.Pages.tells g.P.Pages.limits g.P.Pages.map g.P.Pages.count g.P.Pages.failures l.fn.pages l.pages l.fn.table.root l.cursor.root l.fn.table.shape.own l.fn.low l.cursor.next l.rows.items

abbrev pub decreases-leaves : goal.decreases-leaves
decreases-leaves g l = places_from l.cursor.next
