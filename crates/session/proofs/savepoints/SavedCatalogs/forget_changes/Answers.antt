use Rattle.std.proofs.Common.{arith}
use Rattle.session.proofs.SavedLists.{forgets_next}
use Rattle.session.proofs.savepoints.SavedCatalogs.forget_changes.Goals as goal

pub savepoints-preserved : goal.savepoints-preserved
savepoints-preserved c = forgets_next _ c.savepoints.savepoint-items c.savepoints.savepoint-index c.savepoint-item.result (omega (arith, c.savepoints-test.true, c.savepoints.auto.savepoint-items)) c.savepoints.invariant
