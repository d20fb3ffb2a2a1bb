use Rattle.std.proofs.Common.{◌-◌, ◌≤◌}
use Rattle.tree_page.proofs.Places.{Bounds}
use Rattle.tree_page.proofs.page.TreePage.place.Given as goal

abbrev pub invariant-halves : goal.invariant-halves
invariant-halves l = (l.low ≤ l.high) × Bounds l.self l.rowid l.low l.high

abbrev pub decreases-halves : goal.decreases-halves
decreases-halves l = l.high - l.low
