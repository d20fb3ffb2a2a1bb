-- those so far are let go of, the newest first
use Rattle.std.proofs.Common.{◌≤◌, length}
use Rattle.session.specs.SavedTables.{ReleasesFrom}
use Rattle.session.proofs.savepoints.SavedCatalogs.release.Given as goal

abbrev pub invariant-newest : goal.invariant-newest
invariant-newest l = (l.place ≤ length l.self.savepoints.items) × ReleasesFrom (length l.self.savepoints.items) l.fn.self l.self

abbrev pub decreases-newest : goal.decreases-newest
decreases-newest l = length l.self.savepoints.items
