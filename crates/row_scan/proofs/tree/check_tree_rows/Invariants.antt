-- the batches so far are rows that the table may hold
use Rattle.row_scan.proofs.FitTrees.{HasChecked}
use Rattle.row_scan.proofs.TreeAnswers.{places_from}
use Rattle.row_scan.proofs.tree.check_tree_rows.Given as goal

abbrev pub invariant-batches : goal.invariant-batches
invariant-batches g l =
    HasChecked g.P.Pages.below g.P.Pages.tells g.P.Pages.limits g.P.Pages.map g.P.Pages.count g.P.Pages.failures l.fn.pages l.pages l.table.root l.cursor.root l.cursor.next l.table.shape

abbrev pub decreases-batches : goal.decreases-batches
decreases-batches g l = places_from l.cursor.next
