use Rattle.std.specs.Prelude.{◌≡◌, take}
use Rattle.catalog.specs.Listed.{shared, with_replaced}
use Rattle.catalog.proofs.handles.handles_replaced.Given as goal

-- the handles so far share the tables so far, with the new one in place of those of its name
abbrev pub invariant-tables : goal.invariant-tables
invariant-tables l = shared l.replaced.items ≡ with_replaced l.new.value (shared (take l.table-index l.tables))
