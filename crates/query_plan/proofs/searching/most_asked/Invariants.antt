-- what is left of the indexes decides
use Rattle.std.proofs.Common.{◌≡◌, drop}
use Rattle.query_plan.specs.Asking.{asks_nothing, most_asked}
use Rattle.query_plan.proofs.searching.most_asked.Given as goal

abbrev pub invariant-indexes : goal.invariant-indexes
invariant-indexes l = most_asked l.source l.condition l.place l.found (drop l.place l.indexes) ≡ most_asked l.source l.condition 0 asks_nothing l.indexes
