use Rattle.catalog.specs.Listed.{listed_in}
use Rattle.db_load.proofs.SchemaTables.{err_not_ok}
use Rattle.db_load.proofs.TreelessRows.{trigger_added, trigger_listed}
use Rattle.db_load.proofs.triggers.add_new.Goals as goal

pub returns-in-Ok-clause-tells : goal.returns-in-Ok-clause-tells
returns-in-Ok-clause-tells c = λ can.
    trigger_listed c.args.trigger (listed_in c.args.catalog.now) (listed_in c.add_trigger.new.self) c.add_trigger.result can.1 c.add_trigger.ensures.added c.add_trigger.ensures.refused

pub returns-in-Ok-clause-found : goal.returns-in-Ok-clause-found
returns-in-Ok-clause-found c =
    trigger_added c.args.trigger (listed_in c.args.catalog.now) (listed_in c.add_trigger.new.self) c.add_trigger.result c.in-Ok.ensures.found c.add_trigger.ensures.added

pub returns-in-Err-clause-tells : goal.returns-in-Err-clause-tells
returns-in-Err-clause-tells c = λ can. err_not_ok _ _ (c.in-Err.ensures.tells can.1)
