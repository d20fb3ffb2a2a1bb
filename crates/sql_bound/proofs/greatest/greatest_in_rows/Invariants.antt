-- the greatest so far or the greatest of the rest
use Rattle.std.proofs.Common.{◌≡◌, max, drop}
use Rattle.sql_syntax.specs.Tree.{trees}
use Rattle.sql_bound.specs.Greatest.{greatest_among, greatest_of}
use Rattle.sql_bound.proofs.greatest.greatest_in_rows.Given as goal

abbrev pub invariant-rows : goal.invariant-rows
invariant-rows l = max l.greatest (greatest_of (λ row. greatest_among (trees row)) (drop l.row-index l.rows)) ≡ greatest_of (λ row. greatest_among (trees row)) l.rows
