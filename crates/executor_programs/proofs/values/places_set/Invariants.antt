-- the places so far
use Rattle.std.proofs.Common.{◌≡◌, map, take}
use Rattle.executor_programs.proofs.values.places_set.Given as goal

abbrev pub invariant-sets : goal.invariant-sets
invariant-sets l = l.places.items ≡ map (λ s. s.0) (take l.place-index l.sets)
