-- the changes up to here were made
use Rattle.std.proofs.Common.{length}
use Rattle.tree_table.proofs.ChangedRuns.{HasChanged}
use Rattle.tree_table.proofs.changing.change_rows.Given as goal

abbrev pub invariant-runs : goal.invariant-runs
invariant-runs g l = HasChanged g.P.Pages.below g.P.Pages.tells g.P.Pages.limits g.P.Pages.map g.P.Pages.failures l.fn.pages l.pages l.root l.changes l.rest

abbrev pub decreases-runs : goal.decreases-runs
decreases-runs g l = length l.rest
