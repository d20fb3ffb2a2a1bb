-- what is left decides
use Rattle.std.proofs.Common.{length}
use Rattle.db_write.proofs.Looping.{IsOn}
use Rattle.executor.proofs.SchemaTaking.{TakesTriggerRows}
use Rattle.executor.proofs.dropping.take_trigger_rows.Given as goal

abbrev pub invariant-triggers : goal.invariant-triggers
invariant-triggers g l =
    IsOn g.P.Pages.below g.P.Pages.tells g.P.Pages.limits g.P.Pages.map g.P.Pages.failures (TakesTriggerRows l.name)
    l.fn.pages l.pages l.triggers l.left

abbrev pub decreases-triggers : goal.decreases-triggers
decreases-triggers g l = length l.left
