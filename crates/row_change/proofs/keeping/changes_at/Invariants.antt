-- the changes up to here
use Rattle.std.proofs.Common.{map, take}
use Rattle.tree_page.specs.Cells.{Pairwise}
use Rattle.query_terms.specs.Rows.{row_at}
use Rattle.row_change.specs.Keeping.{IsKeptBy}
use Rattle.row_change.proofs.keeping.changes_at.Given as goal

abbrev pub invariant-places : goal.invariant-places
invariant-places l = Pairwise (IsKeptBy l.table l.sets) (map (row_at l.rows) (take l.place-index l.places)) l.changes.items
