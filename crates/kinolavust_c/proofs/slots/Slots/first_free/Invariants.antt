use Rattle.std.proofs.Common.{◌≡◌}
use Rattle.kinolavust_c.proofs.slots.Slots.first_free.Given as goal

abbrev pub invariant-slots : goal.invariant-slots
invariant-slots l = l.slot ≡ l.kept-index
