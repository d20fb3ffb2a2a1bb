use Rattle.std.proofs.Common.{[], map, rules}
use Rattle.sqlval.specs.Faults.{IsNotDiskFault}
use Rattle.query_names.specs.Checked.{known_all}
use Rattle.query_names.proofs.QuietNames.{not_disk}
use Rattle.query_bind.proofs.Quiet.{of_rows}
use Rattle.executor.proofs.WrittenRows.{row_known}
use Rattle.executor.proofs.refusing.know_rows.Goals as goal

pub returns-in_err-bind_rows-clause-not_disk : goal.returns-in_err-bind_rows-clause-not_disk
returns-in_err-bind_rows-clause-not_disk c =
    let h : IsNotDiskFault c.in_err-bind_rows.field-0.0 = not_disk (known_all (map row_known c.args.rows.now)) c.in_err-bind_rows.field-0.0 (of_rows [] c.args.rows.now) c.in_err-bind_rows.ensures in
    search rules
