use Rattle.std.specs.Prelude.{◌≡◌, take}
use Rattle.query_bind.specs.Assigned.{columns_set}
use Rattle.executor.proofs.refusing.names_set.Given as goal

-- the names so far
abbrev pub invariant-assignments : goal.invariant-assignments
invariant-assignments l = l.names.items ≡ columns_set (take l.assignment-index l.assignments)
