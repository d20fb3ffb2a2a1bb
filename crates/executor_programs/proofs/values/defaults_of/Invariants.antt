-- the defaults so far
use Rattle.std.proofs.Common.{◌≡◌, map, take}
use Rattle.executor_programs.proofs.values.defaults_of.Given as goal

abbrev pub invariant-columns : goal.invariant-columns
invariant-columns l = l.values.items ≡ map (λ c. c.default) (take l.column-index l.columns)
