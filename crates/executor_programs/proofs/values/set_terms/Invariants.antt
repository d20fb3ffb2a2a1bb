-- what is left of SET decides
use Rattle.std.proofs.Common.{◌≡◌, drop, map}
use Rattle.query_terms.specs.Rows.{picked_rows}
use Rattle.query_terms.specs.Values.{value}
use Rattle.query_names.specs.Readings.{env_of, values}
use Rattle.query_terms.proofs.InOrder.{left}
use Rattle.executor_programs.proofs.values.set_terms.Given as goal

abbrev pub invariant-sets : goal.invariant-sets
invariant-sets l =
    left (λ t. value t (env_of (picked_rows l.sources l.picked))) (map (λ s. s.1) (drop l.place-index l.sets)) l.given.items ≡ values (env_of (picked_rows l.sources l.picked)) (map (λ s. s.1) l.sets)
