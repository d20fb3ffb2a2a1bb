-- the value lies as far on as places are left
use Rattle.std.proofs.Common.{◌≡◌, ◌≤◌, ◌-◌, ◌+◌, length}
use Rattle.record.specs.Columns.{values_from}
use Rattle.record.proofs.InPlace.{nth}
use Rattle.record.proofs.columns.nth_value.Given as goal

abbrev pub invariant-columns : goal.invariant-columns
invariant-columns l =
    (nth (values_from (length l.types - l.counter) l.types_left l.bodies_left) (l.index - l.counter) ≡ nth (values_from (length l.types) l.types l.bodies) l.index)
    × (length l.types_left + l.counter ≤ length l.types)
