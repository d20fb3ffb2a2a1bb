use Rattle.trigger.proofs.Updating.{update_sets}
use Rattle.trigger.proofs.update_sets_off_nothing.Goals as goal

pub returns : goal.returns
returns c = update_sets c.update_sets_its_rows.ensures
