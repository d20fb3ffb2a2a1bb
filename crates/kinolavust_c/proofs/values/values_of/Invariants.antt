use Rattle.std.proofs.Common.{◌≡◌, ◌++◌, List, length}
use Rattle.std.specs.List.{flat_map}
use Rattle.sqlval.specs.declared.value.Value.{Value}
use Rattle.kinolavust_c.specs.Replies.{value_bytes}
use Rattle.kinolavust_c.specs.Values.{AreBytesOf}
use Rattle.kinolavust_c.proofs.values.values_of.Given as goal

abbrev pub invariant-values : goal.invariant-values
invariant-values l = ((values : List Value) → AreBytesOf values l.bytes → (left : List Value) × (values ≡ l.values.items ++ left) × AreBytesOf left l.left) × (l.bytes ≡ flat_map value_bytes l.values.items ++ l.left)

abbrev pub decreases-values : goal.decreases-values
decreases-values l = length l.left
