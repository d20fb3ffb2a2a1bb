use Rattle.std.specs.Prelude.{◌≡◌, ◌++◌, map, take}
use Rattle.catalog.specs.Listed.{shared}
use Rattle.catalog.proofs.rowids.push_triggers.Given as goal

-- those that were there, and those of the triggers so far
abbrev pub invariant-triggers : goal.invariant-triggers
invariant-triggers l = l.rowids.items ≡ l.fn.rowids.items ++ map (λ t. t.rowid) (shared (take l.trigger-index l.triggers))
