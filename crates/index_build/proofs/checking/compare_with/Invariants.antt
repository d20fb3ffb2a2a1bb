-- each entry so far is a row's, and so many rows are left
use Rattle.index_build.proofs.Comparing.{HasCompared}
use Rattle.index_build.proofs.checking.compare_with.Given as goal

abbrev pub invariant-batches : goal.invariant-batches
invariant-batches g l =
    HasCompared g.P.Pages.below g.P.Pages.tells g.P.Pages.limits g.P.Pages.map g.P.Pages.count g.P.Pages.failures l.fn.pages l.pages l.fn.root l.cursor.root l.fn.columns l.fn.collations l.cursor.ended l.cursor.after l.cursor.key.items l.fn.rows l.left

abbrev pub decreases-batches : goal.decreases-batches
decreases-batches g l = l.left
