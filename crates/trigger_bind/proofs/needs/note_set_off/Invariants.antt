-- those of the triggers before this place
use Rattle.catalog.specs.Listed.{shared}
use Rattle.trigger_bind.specs.Choosing.{is_set_off_by}
use Rattle.trigger_bind.specs.Needs.{Notes}
use Rattle.trigger_bind.proofs.Noting.{IsBefore}
use Rattle.trigger_bind.proofs.needs.note_set_off.Given as goal

abbrev pub invariant-triggers : goal.invariant-triggers
invariant-triggers l = Notes (IsBefore (shared l.triggers) (is_set_off_by l.change) l.place) l.fn.needs l.needs
