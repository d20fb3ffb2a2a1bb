-- each result so far is marked
use Rattle.std.proofs.Common.{◌≡◌, map, take}
use Rattle.query_names.specs.Grouping.{keyed}
use Rattle.query_bind.proofs.marking.marked_results.Given as goal

abbrev pub invariant-results : goal.invariant-results
invariant-results l = l.found.items ≡ map (λ r. keyed l.keys r.0) (take l.result-index l.results)
