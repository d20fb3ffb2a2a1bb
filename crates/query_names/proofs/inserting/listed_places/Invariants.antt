use Rattle.std.specs.Prelude.{◌≡◌, take, Some}
use Rattle.query_names.specs.Inserts.{places_in}
use Rattle.query_names.proofs.inserting.listed_places.Given as goal

-- the places so far are those of the columns so far
abbrev pub invariant-columns : goal.invariant-columns
invariant-columns l = l.places.items ≡ places_in (take l.column-index l.columns) (Some l.names)
