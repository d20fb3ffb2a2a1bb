use Rattle.std.specs.Prelude.{◌≡◌, filter, take}
use Rattle.catalog.specs.Listed.{shared}
use Rattle.trigger.specs.Events.{event_of}
use Rattle.trigger_bind.specs.Choosing.{is_at}
use Rattle.trigger_bind.proofs.choosing.chosen.Given as goal

-- those of the triggers so far
abbrev pub invariant-triggers : goal.invariant-triggers
invariant-triggers l = shared l.found.items ≡ filter (is_at l.time (event_of l.event) l.target) (shared (take l.trigger-index l.triggers))
