use Rattle.row_change.proofs.Updates.{updates_some}
use Rattle.row_change.proofs.updating.update_sets_its_rows.Goals as goal

pub returns : goal.returns
returns c = updates_some c.other_rows_are_listed.ensures.triggers c.named_databases_are_one.ensures.one c.named_databases_are_one.ensures.named
