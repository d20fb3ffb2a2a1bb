use Rattle.std.proofs.Common.{◌≡◌, ◌==◌, [], false, length, map, not, rules}
use Rattle.std.specs.List.{list_any}
use Rattle.std.specs.Prelude.{Vec}
use Rattle.std.specs.declared.alloc.Global.{Global}
use Rattle.smallvec.specs.SmallVec.{SmallVec}
use Rattle.sqlval.specs.Faults.{IsNotDiskFault}
use Rattle.sqlval.specs.declared.value.Value.{Value}
use Rattle.row_scan.specs.Rows.{values_of}
use Rattle.query_names.specs.Readings.{env_of}
use Rattle.query_names.specs.Checked.{Meant, known_all}
use Rattle.query_names.proofs.QuietNames.{not_disk}
use Rattle.query_bind.proofs.Quiet.{of_rows}
use Rattle.executor.proofs.WrittenRows.{evaluated_quietly, evaluated_wide, row_known}
use Rattle.executor.proofs.giving.written_rows.Goals as goal

pub returns-in_err-terms-clause-not_disk : goal.returns-in_err-terms-clause-not_disk
returns-in_err-terms-clause-not_disk c =
    let h : IsNotDiskFault c.in_err-terms.field-0.0 = not_disk (known_all (map row_known c.args.rows.now)) c.in_err-terms.field-0.0 (of_rows [] c.args.rows.now) c.in_err-terms.ensures in
    search rules

pub returns-clause-not_disk : goal.returns-clause-not_disk
returns-clause-not_disk c =
    evaluated_quietly (λ (found : Vec (SmallVec Value) Global). map values_of found.items) (env_of []) c.as_slice.result.now c.evaluated_rows.result c.evaluated_rows.ensures

pub returns-clause-wide : goal.returns-clause-wide
returns-clause-wide c =
    let few : list_any (λ row. not (c.args.count == length row)) c.args.rows.now ≡ false = search rules in
    let named : known_all (map row_known c.args.rows.now) ≡ Meant c.as_slice.result.now [] = search rules in
    evaluated_wide (λ (found : Vec (SmallVec Value) Global). map values_of found.items) c.args.count c.args.rows.now c.as_slice.result.now c.evaluated_rows.result few named c.evaluated_rows.ensures
