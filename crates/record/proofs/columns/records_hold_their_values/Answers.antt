use Rattle.record.proofs.InPlace.{record_lies}
use Rattle.record.proofs.columns.records_hold_their_values.Goals as goal

pub returns : goal.returns
returns c = record_lies
