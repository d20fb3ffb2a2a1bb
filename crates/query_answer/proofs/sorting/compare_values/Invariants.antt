-- what is left of the keys decides
use Rattle.std.proofs.Common.{◌≡◌, drop}
use Rattle.query_answer.specs.Sorting.{by_values, padded}
use Rattle.query_answer.proofs.sorting.compare_values.Given as goal

abbrev pub invariant-keys : goal.invariant-keys
invariant-keys l = padded l.index (drop l.index l.orders) l.a l.b ≡ by_values l.orders l.a l.b
