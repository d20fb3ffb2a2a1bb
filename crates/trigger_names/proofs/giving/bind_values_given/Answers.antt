use Rattle.std.proofs.Common.{map, rules}
use Rattle.sqlval.specs.Faults.{IsNotDiskFault}
use Rattle.query_names.specs.Checked.{known_all}
use Rattle.query_names.proofs.QuietNames.{not_disk}
use Rattle.query_bind.proofs.Quiet.{of_rows}
use Rattle.trigger_names.proofs.GivenRows.{row_known, rows_wide}
use Rattle.trigger_names.proofs.giving.bind_values_given.Goals as goal

pub returns-in_err-terms-clause-not_disk : goal.returns-in_err-terms-clause-not_disk
returns-in_err-terms-clause-not_disk c =
    let h : IsNotDiskFault c.in_err-terms.field-0.0 =
    not_disk (known_all (map (row_known c.args.outer.now) c.args.rows.now)) c.in_err-terms.field-0.0 (of_rows c.args.outer.now c.args.rows.now) c.in_err-terms.ensures in
    search rules

pub returns-clause-wide : goal.returns-clause-wide
returns-clause-wide c = rows_wide c.args.outer.now c.args.count c.args.rows.now c.in_ok-terms.terms c.in_ok-terms.ensures (search rules)
