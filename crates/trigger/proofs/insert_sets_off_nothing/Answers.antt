use Rattle.trigger.proofs.OnlyTables.{insert_adds, insert_refused, none_stays}
use Rattle.trigger.proofs.insert_sets_off_nothing.Goals as goal

pub returns-clause-refused : goal.returns-clause-refused
returns-clause-refused c = insert_refused

pub returns-clause-inserts : goal.returns-clause-inserts
returns-clause-inserts c = insert_adds c.insert_adds_its_rows.ensures

pub returns-clause-none : goal.returns-clause-none
returns-clause-none c = none_stays
