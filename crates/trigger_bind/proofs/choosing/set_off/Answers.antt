use Rattle.catalog.specs.Listed.{listed_in}
use Rattle.trigger.specs.Events.{event_of}
use Rattle.trigger_bind.proofs.Chosen.{sorted_at}
use Rattle.trigger_bind.proofs.choosing.set_off.Goals as goal

pub returns-clause-found : goal.returns-clause-found
returns-clause-found c = λ rows_at db of.
    sorted_at c.args.time (event_of c.args.event) c.args.target.now rows_at (listed_in c.args.catalog.now) db of c.in_ok-found.found.items c.triggers.result.now c.sort_by_name.new.triggers.items c.triggers.ensures
    c.in_ok-found.ensures.chosen c.in_ok-sort_by_name.ensures.sorted
