use Rattle.record.proofs.RecordLemmas.{one_list}
use Rattle.record.proofs.row.bytes_determine_values.Goals as goal

pub returns : goal.returns
returns c = one_list
