use Rattle.std.specs.Prelude.{◌≡◌, ◌++◌, ◌∷◌, map, take}
use Rattle.catalog.proofs.rowids.push_rowids.Given as goal

-- the table's, and those of the indexes so far
abbrev pub invariant-indexes : goal.invariant-indexes
invariant-indexes l = l.rowids.items ≡ l.fn.rowids.items ++ (l.table.rowid ∷ map (λ i. i.rowid) (take l.index-index l.index-items))
