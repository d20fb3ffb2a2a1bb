-- as many as names so far, each of which joins
use Rattle.std.proofs.Common.{◌≡◌, length}
use Rattle.std.specs.List.{AllByRecursion}
use Rattle.query_names.specs.declared.reading.Condition.TheVariants.{Always}
use Rattle.executor_programs.proofs.querying.outer_sources.Given as goal

abbrev pub invariant-outer : goal.invariant-outer
invariant-outer l = (length l.all.items ≡ l.one-index) × AllByRecursion (λ s. s.1 ≡ Always) l.all.items
