-- Programs are looked at one after another; the names of the change stay known.
use Rattle.std.proofs.Common.{[]}
use Rattle.catalog.specs.Listed.{listed_in}
use Rattle.trigger_bind.specs.Knowing.{IsLookedUpAs}
use Rattle.trigger_bind.specs.Needs.{cost}
use Rattle.trigger_bind.proofs.Queue.{IsUnderWay}
use Rattle.trigger_bind.proofs.knowing.know_change.Given as goal

abbrev pub invariant-queue : goal.invariant-queue
invariant-queue l = IsUnderWay (listed_in l.catalog) l.change l.needs × IsLookedUpAs (listed_in l.catalog) [] l.change l.bound

abbrev pub decreases-queue : goal.decreases-queue
decreases-queue l = cost l.needs
