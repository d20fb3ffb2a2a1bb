-- what is left of the list decides
use Rattle.query_names.specs.Checked.{onto_list}
use Rattle.std.proofs.Common.{◌≡◌, drop}
use Rattle.query_bind.specs.Assigned.{sets_known}
use Rattle.query_bind.proofs.assigning.bind_each.Given as goal

abbrev pub invariant-assignments : goal.invariant-assignments
invariant-assignments l = onto_list l.sets.items (sets_known l.table.columns l.scope (drop l.assignment-index l.assignments)) ≡ sets_known l.table.columns l.scope l.assignments
