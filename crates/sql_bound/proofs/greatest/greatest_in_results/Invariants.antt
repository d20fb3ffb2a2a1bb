-- the greatest so far or the greatest of the rest
use Rattle.std.proofs.Common.{◌≡◌, max, drop}
use Rattle.sql_bound.specs.Greatest.{greatest_in_result, greatest_of}
use Rattle.sql_bound.proofs.greatest.greatest_in_results.Given as goal

abbrev pub invariant-results : goal.invariant-results
invariant-results l = max l.greatest (greatest_of greatest_in_result (drop l.item-index l.results)) ≡ greatest_of greatest_in_result l.results
