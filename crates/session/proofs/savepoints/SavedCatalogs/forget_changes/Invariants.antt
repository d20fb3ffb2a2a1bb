-- those so far are unchanged
use Rattle.std.proofs.Common.{◌≡◌, ◌++◌, drop, map, take}
use Rattle.session.specs.SavedTables.{unchanged}
use Rattle.session.proofs.savepoints.SavedCatalogs.forget_changes.Given as goal

abbrev pub invariant-savepoints : goal.invariant-savepoints
invariant-savepoints l = l.savepoint-items ≡ take l.savepoint-index (map unchanged l.fn.self.savepoints.items) ++ drop l.savepoint-index l.fn.self.savepoints.items
