use Rattle.std.specs.Prelude.{take}
use Rattle.catalog.specs.ByIndex.{AreMore, any_of}
use Rattle.catalog.specs.ByName.{in_handles}
use Rattle.catalog.proofs.by_index.put_indexes.Given as goal

-- the indexes so far of the table are put
abbrev pub invariant-indexes : goal.invariant-indexes
invariant-indexes l = AreMore (λ test. any_of test l.table.value (take l.place l.table.value.indexes)) (in_handles l.fn.handles.items) (in_handles l.handles.items)
