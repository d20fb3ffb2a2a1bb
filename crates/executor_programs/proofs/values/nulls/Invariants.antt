-- as many NULLs as places so far
use Rattle.std.proofs.Common.{◌≡◌, replicate}
use Rattle.sqlval.specs.declared.value.Value.TheVariants.{Null}
use Rattle.executor_programs.proofs.values.nulls.Given as goal

abbrev pub invariant-nulls : goal.invariant-nulls
invariant-nulls l = l.values.items ≡ replicate l.place Null
