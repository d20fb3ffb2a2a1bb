-- the rowids up to here
use Rattle.std.proofs.Common.{◌≡◌, map, take}
use Rattle.query_terms.specs.Rows.{row_at}
use Rattle.catalog.specs.Rows.{rowid_number}
use Rattle.row_change.proofs.taking.rowids_at.Given as goal

abbrev pub invariant-places : goal.invariant-places
invariant-places l = l.rowids.items ≡ map (λ place. rowid_number (row_at l.rows place).rowid) (take l.place-index l.places)
