-- each column so far is copied
use Rattle.std.proofs.Common.{◌≡◌, map, take}
use Rattle.query_bind.proofs.results.columns_of.Given as goal

abbrev pub invariant-results : goal.invariant-results
invariant-results l = l.found.items ≡ map (λ r. r.1) (take l.result-index l.results)
