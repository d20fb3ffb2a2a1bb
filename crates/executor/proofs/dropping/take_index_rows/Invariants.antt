-- what is left decides
use Rattle.std.proofs.Common.{length}
use Rattle.db_write.proofs.Looping.{IsOn}
use Rattle.executor.proofs.SchemaTaking.{TakesIndexRows}
use Rattle.executor.proofs.dropping.take_index_rows.Given as goal

abbrev pub invariant-indexes : goal.invariant-indexes
invariant-indexes g l =
    IsOn g.P.Pages.below g.P.Pages.tells g.P.Pages.limits g.P.Pages.map g.P.Pages.failures TakesIndexRows
    l.fn.pages l.pages l.indexes l.left

abbrev pub decreases-indexes : goal.decreases-indexes
decreases-indexes g l = length l.left
