-- those so far are idle
use Rattle.std.proofs.Common.{◌≡◌, length, take}
use Rattle.std.specs.List.{AllByRecursion}
use Rattle.session.specs.Seats.{IsIdleSeat}
use Rattle.session.proofs.seats.give_up_seats.Given as goal

abbrev pub invariant-seats : goal.invariant-seats
invariant-seats l = AllByRecursion IsIdleSeat (take l.seat-index l.seat-items) × (length l.seat-items ≡ length l.fn.seats.items)
