use Rattle.std.specs.Prelude.{◌≡◌, take}
use Rattle.catalog.proofs.copying.keys_copy.Given as goal

-- those so far are copied
abbrev pub invariant-keys : goal.invariant-keys
invariant-keys l = l.copy.items ≡ take l.columns-index l.keys
