use Rattle.std.specs.Prelude.{◌≡◌, map, Some}
use Rattle.std.specs.List.{range_with_len}
use Rattle.query_names.proofs.inserting.own_places.Given as goal

-- the places so far are the first
abbrev pub invariant-columns : goal.invariant-columns
invariant-columns l = l.places.items ≡ map Some (range_with_len 0 l.index)
