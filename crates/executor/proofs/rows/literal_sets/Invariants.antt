-- the literals so far, with those of the values that are left
use Rattle.std.proofs.Common.{◌≡◌, ◌++◌, drop}
use Rattle.executor.specs.Rows.{literals}
use Rattle.executor.proofs.rows.literal_sets.Given as goal

abbrev pub invariant-values : goal.invariant-values
invariant-values l = l.sets.items ++ literals l.place (drop l.place l.values) ≡ literals 0 l.values
