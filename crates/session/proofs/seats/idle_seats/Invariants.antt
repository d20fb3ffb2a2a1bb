-- so many are idle
use Rattle.std.proofs.Common.{◌≡◌, length}
use Rattle.std.specs.List.{AllByRecursion}
use Rattle.session.specs.Seats.{IsIdleSeat}
use Rattle.session.proofs.seats.idle_seats.Given as goal

abbrev pub invariant-seats : goal.invariant-seats
invariant-seats l = AllByRecursion IsIdleSeat l.seats.items × (length l.seats.items ≡ l.counter)
