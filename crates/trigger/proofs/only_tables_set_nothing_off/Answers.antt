use Rattle.trigger.proofs.OnlyTables.{binds_alone, sets_nothing_off}
use Rattle.trigger.proofs.only_tables_set_nothing_off.Goals as goal

pub returns-clause-still : goal.returns-clause-still
returns-clause-still c = sets_nothing_off

pub returns-clause-binds : goal.returns-clause-binds
returns-clause-binds c = binds_alone
