use Rattle.std.specs.Prelude.{◌≡◌, take}
use Rattle.catalog.specs.ByIndex.{indexes_elsewhere}
use Rattle.catalog.specs.ByName.{in_handles}
use Rattle.catalog.proofs.by_index.indexes_of_others.Given as goal

-- the handles so far share those so far of other tables
abbrev pub invariant-handles : goal.invariant-handles
invariant-handles l = in_handles l.left.items ≡ indexes_elsewhere l.name (in_handles (take l.handle-index l.handles))
