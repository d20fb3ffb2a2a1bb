use Rattle.std.specs.Prelude.{◌≡◌, take}
use Rattle.catalog.proofs.copying.key_copy.Given as goal

-- those so far are copied
abbrev pub invariant-columns : goal.invariant-columns
invariant-columns l = l.copy.items ≡ take l.column-index l.columns
