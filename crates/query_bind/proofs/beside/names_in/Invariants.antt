-- the first name, and those so far
use Rattle.std.proofs.Common.{◌≡◌, ◌∷◌, map, take}
use Rattle.query_names.specs.Queries.{source_name}
use Rattle.query_bind.proofs.beside.names_in.Given as goal

abbrev pub invariant-joins : goal.invariant-joins
invariant-joins l = l.names.items ≡ source_name l.from.first ∷ map (λ j. source_name j.source) (take l.join-index l.from.joins)
