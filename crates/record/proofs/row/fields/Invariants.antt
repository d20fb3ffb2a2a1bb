use Rattle.std.proofs.Common.{◌≡◌, length, map}
use Rattle.sqlval.specs.Fields.{value_of}
use Rattle.record.specs.Reading.{columns_at}
use Rattle.record.proofs.ColumnLemmas.{with_front}
use Rattle.record.proofs.row.fields.Given as goal

abbrev pub invariant-columns : goal.invariant-columns
invariant-columns l =
    with_front (map value_of l.found.items) (columns_at (length l.types_left) l.types_left l.bodies_left) ≡ columns_at (length l.types) l.types l.bodies

abbrev pub decreases-columns : goal.decreases-columns
decreases-columns l = length l.types_left
