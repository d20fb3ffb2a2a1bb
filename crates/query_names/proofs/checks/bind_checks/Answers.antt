use Rattle.std.proofs.Common.{rules}
use Rattle.sqlval.specs.Faults.{IsNotDiskFault}
use Rattle.query_names.proofs.BoundChecks.{checks_quiet}
use Rattle.query_names.proofs.checks.bind_checks.Goals as goal

pub returns-in_err-terms-clause-not_disk : goal.returns-in_err-terms-clause-not_disk
returns-in_err-terms-clause-not_disk c =
    let quiet : IsNotDiskFault c.in_err-terms.field-0.0 = checks_quiet c.as_slice.result.now c.args.definition.now c.in_err-terms.field-0.0 c.in_err-terms.ensures in
    search rules
