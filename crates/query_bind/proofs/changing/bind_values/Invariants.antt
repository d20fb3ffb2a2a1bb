-- what is left of the list decides
use Rattle.std.proofs.Common.{◌≡◌, drop, false, map}
use Rattle.query_names.specs.Checked.{known_all, onto_list}
use Rattle.query_names.specs.Expressions.{resolve}
use Rattle.query_bind.proofs.changing.bind_values.Given as goal

abbrev pub invariant-assignments : goal.invariant-assignments
invariant-assignments l =
    onto_list l.terms.items (known_all (map (λ a. resolve false l.scope a.value) (drop l.assignment-index l.assignments))) ≡ known_all (map (λ a. resolve false l.scope a.value) l.assignments)
