use Rattle.std.proofs.Common.{◌≡◌, ℕ, List, Result, Ok, Err, arith}
use Rattle.std.specs.Prelude.{IfOk}
use Rattle.sqlval.specs.declared.value.Value.{Value}
use Rattle.sqlval.specs.declared.fault.Fault.{Fault}
use Rattle.sqlval.specs.Gives.{Gives}
use Rattle.record.specs.declared.field.Wrong.{Wrong}
use Rattle.record.specs.Record.{IsRecord}
use Rattle.record.specs.Reading.{answer, record_at}
use Rattle.record.proofs.VarintLemmas.{AreBytes, AreBytes-from_index}
use Rattle.record.proofs.RecordLemmas.{record_is, record_again}
use Rattle.record.proofs.row.Record.over.Goals as goal

answer_ok : (read : Result (List Value) Wrong) (row : List Value) → answer read ≡ Ok row → read ≡ Ok row
answer_ok (Ok x) row e = cc
answer_ok (Err wrong) row e = absurd cc

found_is : (bytes : List ℕ) (r : Result (List Value) Fault) → AreBytes bytes → Gives (λ row. row) r (answer (record_at bytes)) → IfOk r (λ row. IsRecord bytes row)
found_is bytes (Ok row) fits given = record_is bytes row fits (answer_ok (record_at bytes) row given)
found_is bytes (Err fault) fits given = tt

pub returns-clause-found : goal.returns-clause-found
returns-clause-found c = found_is c.args.bytes.now c.read.result (AreBytes-from_index c.args.bytes.now (λ i. omega (arith, c.type_inv.bytes i))) c.read.ensures

pub returns-clause-only : goal.returns-clause-only
returns-clause-only c = λ values is. rw (record_again c.args.bytes.now values is) at c.read.ensures
