-- what is kept of those so far
use Rattle.std.specs.Prelude.{◌≡◌, [], take}
use Rattle.query_totals.specs.Totals.{tallies_over}
use Rattle.query_totals.proofs.rows.no_rows.Given as goal

abbrev pub invariant-terms : goal.invariant-terms
invariant-terms l = l.tallies.items ≡ tallies_over [] (take l.term-index l.terms)
