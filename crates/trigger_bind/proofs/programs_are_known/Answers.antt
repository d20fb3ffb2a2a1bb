use Rattle.trigger_bind.proofs.Chosen.{at_some_time}
use Rattle.trigger_bind.proofs.Inherited.{is_inherited}
use Rattle.trigger_bind.proofs.programs_are_known.Goals as goal

pub returns-clause-inherited : goal.returns-clause-inherited
returns-clause-inherited c = is_inherited

pub returns-clause-times : goal.returns-clause-times
returns-clause-times c = at_some_time
