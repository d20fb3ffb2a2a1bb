-- the entries of the rows up to a place
use Rattle.std.proofs.Common.{◌≡◌, map, take}
use Rattle.query_terms.specs.Rows.{row_at}
use Rattle.catalog.specs.Rows.{as_row}
use Rattle.index_entries.specs.Entries.{indexed}
use Rattle.index_entries.specs.Keeping.{columns_in}
use Rattle.index_entries.proofs.places.entries_at.Given as goal

abbrev pub invariant-places : goal.invariant-places
invariant-places l = l.entries.items ≡ map (λ place. indexed (columns_in l.columns) (as_row (row_at l.rows place))) (take l.place-index l.places)
