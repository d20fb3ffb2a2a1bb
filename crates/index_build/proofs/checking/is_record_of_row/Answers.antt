use Rattle.std.proofs.Common.{Bool}
use Rattle.index_build.specs.Calls.{Tells}
use Rattle.index_build.specs.Checking.{IsRowsEntry}
use Rattle.index_build.proofs.Comparing.{memory_alone, tells_entry}
use Rattle.index_build.proofs.checking.is_record_of_row.Goals as goal

pub returns-in_err-record-clause-only : goal.returns-in_err-record-clause-only
returns-in_err-record-clause-only c = λ entry rises is.
    memory_alone c.in_err-record.field-0.0 entry (λ (it : Bool). Tells it (IsRowsEntry c.args.columns.now c.args.rows.now entry)) c.from_residual.result (c.in_err-record.ensures.only entry is) c.from_residual.ensures.1

pub returns-clause-only : goal.returns-clause-only
returns-clause-only c = λ entry rises is.
    tells_entry (IsRowsEntry c.args.columns.now c.args.rows.now) c.is_of_row.result c.in_ok-record.record entry (c.in_ok-record.ensures.only entry is) (c.is_of_row.ensures rises)
