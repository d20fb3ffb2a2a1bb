-- what is left of the list decides
use Rattle.std.proofs.Common.{◌≡◌, drop, map}
use Rattle.query_names.specs.Checked.{known_all, onto_list}
use Rattle.query_names.specs.Scopes.{place_of}
use Rattle.query_bind.proofs.changing.bind_each_place.Given as goal

abbrev pub invariant-names : goal.invariant-names
invariant-names l = onto_list l.places.items (known_all (map (place_of l.source) (drop l.name-index l.names))) ≡ known_all (map (place_of l.source) l.names)
