-- what is left of SET decides
use Rattle.std.proofs.Common.{◌≡◌, drop, map, ℕ}
use Rattle.sqlval.specs.Refusals.{all_answers}
use Rattle.query_terms.specs.Rows.{datum, seen}
use Rattle.query_terms.specs.Terms.{Term}
use Rattle.query_terms.specs.Values.{value}
use Rattle.query_terms.proofs.InOrder.{left}
use Rattle.row_change.proofs.keeping.give_values.Given as goal

abbrev pub invariant-sets : goal.invariant-sets
invariant-sets l =
    left (λ (set : ℕ × Term). value set.1 (seen l.env)) (drop l.term-index l.sets) (map datum l.given.items) ≡ all_answers (map (λ (set : ℕ × Term). value set.1 (seen l.env)) l.sets)
