-- the places so far are those of the rows so far
use Rattle.std.proofs.Common.{◌≡◌, map, take}
use Rattle.query_answer.proofs.grouping.places_of.Given as goal

abbrev pub invariant-rows : goal.invariant-rows
invariant-rows l = l.places.items ≡ map (λ r. r.picked) (take l.row-index l.rows)
