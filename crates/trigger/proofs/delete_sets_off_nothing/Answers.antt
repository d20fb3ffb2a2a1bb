use Rattle.trigger.proofs.OnlyTables.{delete_takes, delete_takes_chosen}
use Rattle.trigger.proofs.delete_sets_off_nothing.Goals as goal

pub returns-clause-deletes : goal.returns-clause-deletes
returns-clause-deletes c = delete_takes c.delete_takes_its_rows.ensures.all

pub returns-clause-chosen : goal.returns-clause-chosen
returns-clause-chosen c = delete_takes_chosen c.delete_takes_its_rows.ensures.some
