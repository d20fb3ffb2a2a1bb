use Rattle.std.specs.Prelude.{◌≡◌, filter, not, take}
use Rattle.sqlval.specs.Names.{is_same_name}
use Rattle.catalog.proofs.copying.others_copy.Given as goal

-- those so far that don't have the name are copied
abbrev pub invariant-indexes : goal.invariant-indexes
invariant-indexes l = l.copy.items ≡ filter (λ index. not (is_same_name index.name l.name)) (take l.index-index l.indexes)
