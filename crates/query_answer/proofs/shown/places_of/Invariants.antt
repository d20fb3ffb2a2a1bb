-- what is left of the expressions decides
use Rattle.std.proofs.Common.{◌≡◌, ◌∷◌, [], Some, drop, map}
use Rattle.query_terms.specs.Values.{Row, at_row, value}
use Rattle.query_names.specs.Readings.{env_of, values}
use Rattle.query_terms.proofs.InOrder.{left}
use Rattle.query_answer.proofs.shown.places_of.Given as goal

abbrev pub invariant-terms : goal.invariant-terms
invariant-terms l =
    (row : Row) → left (λ t. value t (env_of (row ∷ []))) (drop l.term-index l.terms) (map (at_row (Some row)) l.places.items) ≡ values (env_of (row ∷ [])) l.terms
