use Rattle.row_change.proofs.Folding.{inserts_rows}
use Rattle.row_change.proofs.inserting.insert_adds_its_rows.Goals as goal

pub returns : goal.returns
returns c = inserts_rows c.other_rows_are_listed.ensures.triggers
