-- the statements so far
use Rattle.std.proofs.Common.{take}
use Rattle.catalog.specs.Listed.{listed_in, triggers_in}
use Rattle.trigger_bind.specs.Choosing.{sets_off_within}
use Rattle.trigger_bind.specs.Needs.{NotesThose}
use Rattle.trigger_bind.proofs.Bodies.{AreKnown}
use Rattle.trigger_bind.proofs.programs.know_body.Given as goal

abbrev pub invariant-body : goal.invariant-body
invariant-body l = AreKnown (listed_in l.catalog) l.outer (take l.statement-index l.body) × NotesThose (triggers_in l.catalog) (sets_off_within (take l.statement-index l.body)) l.fn.needs l.needs
