use Rattle.std.specs.Prelude.{◌≡◌, take}
use Rattle.catalog.proofs.copying.indexes_copy.Given as goal

-- those so far are copied
abbrev pub invariant-indexes : goal.invariant-indexes
invariant-indexes l = l.copy.items ≡ take l.index-index l.indexes
