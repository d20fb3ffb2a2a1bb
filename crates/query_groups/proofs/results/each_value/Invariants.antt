-- what is left of the expressions decides
use Rattle.std.proofs.Common.{◌≡◌, List}
use Rattle.query_terms.proofs.InOrder.{with_front}
use Rattle.query_terms.specs.Values.{Row}
use Rattle.query_totals.specs.Totals.{tallies_over}
use Rattle.query_groups.specs.Giving.{given_each}
use Rattle.query_groups.proofs.results.each_value.Given as goal

abbrev pub invariant-tallies : goal.invariant-tallies
invariant-tallies l =
    (group : List (List Row)) → l.fn.tallies.items ≡ tallies_over group l.terms
    → (l.tally-iterator.rest.items ≡ tallies_over group l.left)
    × (with_front l.values.items (given_each l.keys l.left l.tally-iterator.rest.items) ≡ given_each l.keys l.terms l.fn.tallies.items)
