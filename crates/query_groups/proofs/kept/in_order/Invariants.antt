-- those so far, and those that are left
use Rattle.std.proofs.Common.{◌≡◌, ◌++◌, map}
use Rattle.std.specs.BTreeMap.{values}
use Rattle.query_groups.specs.Groups.{listed}
use Rattle.query_groups.proofs.Listed.{kept_as}
use Rattle.query_groups.proofs.kept.in_order.Given as goal

abbrev pub invariant-groups : goal.invariant-groups
invariant-groups l = listed l.groups.items ++ map kept_as l.group-iterator ≡ map kept_as (values l.fn.by_key)
