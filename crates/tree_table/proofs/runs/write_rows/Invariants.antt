-- the rows of the changes up to here were written
use Rattle.std.proofs.Common.{◌≡◌, length, map, take}
use Rattle.tree_table.specs.Runs.{cell_in}
use Rattle.tree_table.proofs.NewCells.{HasWritten}
use Rattle.tree_table.proofs.runs.write_rows.Given as goal

abbrev pub invariant-changes : goal.invariant-changes
invariant-changes g l = (length l.cells.items ≡ l.change-index) × HasWritten g.P.Pages.below g.P.Pages.tells g.P.Pages.limits g.P.Pages.map g.P.Pages.failures l.fn.pages l.pages (take l.change-index l.changes) (map cell_in l.cells.items)
