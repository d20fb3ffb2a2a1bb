-- what is left of the groups decides
use Rattle.std.proofs.Common.{◌≡◌, List, map, true}
use Rattle.std.specs.List.{AllByRecursion, list_all}
use Rattle.sqlval.specs.Refusals.{all_answers}
use Rattle.query_terms.proofs.InOrder.{left}
use Rattle.query_totals.specs.Totals.{AreTaken}
use Rattle.query_groups.specs.Groups.{is_of_group, kept_of_group, listed, rows_of_group}
use Rattle.query_answer.specs.Groups.{Keyed, row_of_group}
use Rattle.query_answer.specs.Nesting.{shown}
use Rattle.query_answer.proofs.tallied.rows_of_each.Given as goal

abbrev pub invariant-groups : goal.invariant-groups
invariant-groups l =
    (found : List (List Keyed)) → list_all is_of_group l.terms ≡ true → AllByRecursion (λ group. AllByRecursion (AreTaken l.terms) (rows_of_group group)) found → listed l.fn.groups.items ≡ map (kept_of_group l.terms) found
    → (now : List (List Keyed)) × AllByRecursion (λ group. AllByRecursion (AreTaken l.terms) (rows_of_group group)) now × (listed l.keys-iterator.rest.items ≡ map (kept_of_group l.terms) now)
    × (left (row_of_group l.terms) now (map shown l.rows.items) ≡ all_answers (map (row_of_group l.terms) found))
