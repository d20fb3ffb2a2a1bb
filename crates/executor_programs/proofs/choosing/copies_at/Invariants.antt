-- the copies so far
use Rattle.std.proofs.Common.{◌≡◌, map, take}
use Rattle.query_terms.specs.Rows.{row_at}
use Rattle.executor_programs.proofs.choosing.copies_at.Given as goal

abbrev pub invariant-places : goal.invariant-places
invariant-places l = l.copies.items ≡ map (row_at l.rows) (take l.place-index l.places)
