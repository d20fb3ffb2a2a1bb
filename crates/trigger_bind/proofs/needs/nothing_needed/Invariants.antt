-- as many as places, none of them needed
use Rattle.std.proofs.Common.{◌≡◌, ℕ, length}
use Rattle.trigger_bind.specs.Needs.{IsNeeded}
use Rattle.trigger_bind.proofs.needs.nothing_needed.Given as goal

abbrev pub invariant-places : goal.invariant-places
invariant-places l = (length l.needed.items ≡ l.place) × ((i : ℕ) → IsNeeded l.needed.items i → ⊥)
