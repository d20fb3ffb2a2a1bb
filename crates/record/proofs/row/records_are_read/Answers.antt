use Rattle.record.proofs.RecordLemmas.{record_again}
use Rattle.record.proofs.row.records_are_read.Goals as goal

pub returns : goal.returns
returns c = record_again
