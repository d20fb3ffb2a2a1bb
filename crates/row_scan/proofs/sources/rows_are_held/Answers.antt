use Rattle.row_scan.proofs.SourceRows.{sources_again}
use Rattle.row_scan.proofs.sources.rows_are_held.Goals as goal

pub returns : goal.returns
returns c = λ shape entries rows each. sources_again c.records_hold_their_values.ensures shape entries rows each
