-- what is left of the tree decides
use Rattle.row_scan.specs.Sources.{places_shown, shown_at}
use Rattle.row_scan.proofs.TreeAnswers.{HasRead, places_from}
use Rattle.row_scan.proofs.sources.shown_rows.Given as goal

abbrev pub invariant-batches : goal.invariant-batches
invariant-batches g l =
    HasRead g.P.Pages.below g.P.Pages.tells g.P.Pages.limits g.P.Pages.map g.P.Pages.count g.P.Pages.failures (shown_at (places_shown l.fn.shown) l.fn.table.shape.own) l.fn.pages l.pages l.fn.table.root l.cursor.root l.cursor.next l.rows

abbrev pub decreases-batches : goal.decreases-batches
decreases-batches g l = places_from l.cursor.next
