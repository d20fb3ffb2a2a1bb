-- the removals up to here
use Rattle.std.proofs.Common.{◌≡◌, List, take}
use Rattle.tree_leaf.specs.Leaf.{Entry}
use Rattle.tree_table.specs.Rows.{with_changes}
use Rattle.row_change.specs.Taking.{without_rows}
use Rattle.row_change.proofs.taking.removals.Given as goal

abbrev pub invariant-rowids : goal.invariant-rowids
invariant-rowids l = (rows : List Entry) → with_changes l.changes.items rows ≡ without_rows (take l.rowid-index l.rowids) rows
