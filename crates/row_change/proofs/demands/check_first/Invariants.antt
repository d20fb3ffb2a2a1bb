-- what is left of the CHECKs decides
use Rattle.std.proofs.Common.{◌≡◌, drop}
use Rattle.query_terms.specs.Rows.{row_at}
use Rattle.row_change.specs.Constraints.{checks_hold}
use Rattle.row_change.proofs.demands.check_first.Given as goal

abbrev pub invariant-checks : goal.invariant-checks
invariant-checks l = checks_hold (row_at l.rows 0) (drop l.check-index l.checks) ≡ checks_hold (row_at l.rows 0) l.checks
