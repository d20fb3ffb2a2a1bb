-- the copies up to here
use Rattle.std.proofs.Common.{◌≡◌, map, take}
use Rattle.query_terms.specs.Rows.{row_at}
use Rattle.catalog.specs.Rows.{as_row}
use Rattle.row_change.specs.NewRows.{row_of}
use Rattle.row_change.proofs.meaning.copies_at.Given as goal

abbrev pub invariant-places : goal.invariant-places
invariant-places l = map row_of l.them.items ≡ map (λ place. as_row (row_at l.rows place)) (take l.place-index l.places)
