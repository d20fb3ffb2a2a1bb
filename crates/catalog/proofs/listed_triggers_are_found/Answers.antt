use Rattle.catalog.proofs.ListedTriggers.{lists_triggers}
use Rattle.catalog.proofs.listed_triggers_are_found.Goals as goal

pub returns : goal.returns
returns c = lists_triggers
