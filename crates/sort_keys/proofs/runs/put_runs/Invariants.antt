-- what is written and what is left
use Rattle.std.proofs.Common.{◌≡◌, ◌++◌, length}
use Rattle.std.specs.List.{flat_map}
use Rattle.sort_keys.specs.Keys.{escape}
use Rattle.sort_keys.proofs.runs.put_runs.Given as goal

abbrev pub invariant-runs : goal.invariant-runs
invariant-runs l = l.out.items ++ flat_map escape l.rest ≡ l.initial.out.items ++ flat_map escape l.bytes

abbrev pub decreases-runs : goal.decreases-runs
decreases-runs l = length l.rest
