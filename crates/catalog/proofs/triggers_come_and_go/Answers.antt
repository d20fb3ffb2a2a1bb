use Rattle.catalog.proofs.ViewChanges.{lists_new_trigger, lists_other_triggers}
use Rattle.catalog.proofs.triggers_come_and_go.Goals as goal

pub returns-clause-new : goal.returns-clause-new
returns-clause-new c = lists_new_trigger

pub returns-clause-others : goal.returns-clause-others
returns-clause-others c = lists_other_triggers
