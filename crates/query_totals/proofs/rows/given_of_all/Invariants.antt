-- what is left of the aggregates decides
use Rattle.std.proofs.Common.{◌≡◌, map}
use Rattle.sqlval.specs.Refusals.{all_answers}
use Rattle.query_terms.proofs.InOrder.{with_front}
use Rattle.query_totals.specs.Tallies.{given_by}
use Rattle.query_totals.proofs.rows.given_of_all.Given as goal

abbrev pub invariant-tallies : goal.invariant-tallies
invariant-tallies l = with_front l.values.items (all_answers (map given_by l.tally-iterator.rest.items)) ≡ all_answers (map given_by l.fn.tallies.items)
