use Rattle.std.proofs.Common.{◌∙◌, ap}
use Rattle.std.specs.Prelude.{not}
use Rattle.catalog.specs.Listed.{listed_in}
use Rattle.trigger.specs.Events.{event_of}
use Rattle.trigger.proofs.ListedEvents.{is_quiet_by}
use Rattle.trigger.proofs.events.is_still.Goals as goal

pub returns : goal.returns
returns c = λ rows_at db of.
    ap not c.any_set_off.ensures ∙ is_quiet_by c.listed_triggers_are_found.ensures c.args.target.now (event_of c.args.event) rows_at (listed_in c.args.catalog.now) db c.triggers.result.now c.triggers.ensures of
