use Rattle.std.proofs.Common.{◌≡◌, ◌++◌, take}
use Rattle.std.specs.List.{flat_map}
use Rattle.kinolavust_c.specs.Replies.{value_bytes}
use Rattle.kinolavust_c.proofs.replies.put_values.Given as goal

abbrev pub invariant-values : goal.invariant-values
invariant-values l = l.out.items ≡ l.initial.out.items ++ flat_map value_bytes (take l.value-index l.values)
