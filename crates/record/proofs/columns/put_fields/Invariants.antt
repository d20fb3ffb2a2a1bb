-- the values up to a place, and those that are left
use Rattle.std.proofs.Common.{◌≡◌, ◌≤◌, ◌++◌, length, map}
use Rattle.sqlval.specs.Fields.{value_of}
use Rattle.record.specs.Columns.{values_from}
use Rattle.record.proofs.columns.put_fields.Given as goal

abbrev pub invariant-columns : goal.invariant-columns
invariant-columns l =
    (map value_of l.fields.items ++ values_from (length l.types_left) l.types_left l.bodies_left
    ≡ map value_of l.initial.fields.items ++ values_from (length l.types) l.types l.bodies)
    × (l.initial.fields.capacity ≤ l.fields.capacity)

abbrev pub decreases-columns : goal.decreases-columns
decreases-columns l = length l.types_left
