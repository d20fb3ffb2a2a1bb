-- what is left of the aggregates decides
use Rattle.std.proofs.Common.{◌≡◌, length}
use Rattle.query_terms.specs.Rows.{seen}
use Rattle.query_totals.proofs.EachTally.{under_way}
use Rattle.query_totals.specs.Totals.{tallies_with}
use Rattle.query_totals.proofs.rows.add_to_each.Given as goal

abbrev pub invariant-tallies : goal.invariant-tallies
invariant-tallies l =
    (under_way (seen l.env) l.left l.tally-items l.tally-index ≡ tallies_with l.terms (seen l.env) l.fn.tallies.items)
    × (length l.tally-items ≡ length l.fn.tallies.items)
