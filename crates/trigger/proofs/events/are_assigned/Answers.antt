use Rattle.std.proofs.Common.{◌∙◌}
use Rattle.trigger.proofs.ListedEvents.{any_assigned}
use Rattle.trigger.proofs.events.are_assigned.Goals as goal

pub returns : goal.returns
returns c = c.names_assigned.ensures ∙ any_assigned c.args.columns.now c.args.assignments.now
