use Rattle.query_terms.specs.Rows.{row_at}
use Rattle.row_change.proofs.Checks.{checks_quiet}
use Rattle.row_change.proofs.demands.check_row.Goals as goal

pub returns-clause-not_disk : goal.returns-clause-not_disk
returns-clause-not_disk c = checks_quiet (row_at c.in_ok-rows.rows 0) c.as_slice-checks.result.now c.check_first.result c.check_first.ensures
