-- the values that are left decide
use Rattle.executor.proofs.PlacesByColumn.{ArePlaced}
use Rattle.executor.proofs.rows.places_by_column.Given as goal

abbrev pub invariant-places : goal.invariant-places
invariant-places l = ArePlaced l.table.columns l.places l.place l.made.items
