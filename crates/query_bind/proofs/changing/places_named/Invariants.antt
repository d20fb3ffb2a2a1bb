-- the places of the columns that are left come after those that were found
use Rattle.std.proofs.Common.{◌≡◌, ◌++◌, drop}
use Rattle.query_names.specs.Scopes.{places_from}
use Rattle.query_bind.proofs.changing.places_named.Given as goal

abbrev pub invariant-columns : goal.invariant-columns
invariant-columns l = l.places.items ++ places_from l.place l.name (drop l.place l.columns) ≡ places_from 0 l.name l.columns
