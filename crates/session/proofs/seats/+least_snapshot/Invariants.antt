use Rattle.std.proofs.Common.{length}
use Rattle.session.proofs.seats.+least_snapshot.Given as goal

-- proposed from what the function passes where it calls itself
abbrev pub decreases-least_snapshot : goal.decreases-least_snapshot
decreases-least_snapshot l = length l.seats.now
