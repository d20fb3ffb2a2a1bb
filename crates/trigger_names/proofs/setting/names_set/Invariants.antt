-- the names so far
use Rattle.std.specs.Prelude.{◌≡◌, take}
use Rattle.query_bind.specs.Assigned.{columns_set}
use Rattle.trigger_names.proofs.setting.names_set.Given as goal

abbrev pub invariant-assignments : goal.invariant-assignments
invariant-assignments l = l.names.items ≡ columns_set (take l.assignment-index l.assignments)
