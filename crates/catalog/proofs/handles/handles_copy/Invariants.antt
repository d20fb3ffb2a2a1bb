use Rattle.std.specs.Prelude.{◌≡◌, take}
use Rattle.catalog.specs.Listed.{shared}
use Rattle.catalog.proofs.handles.handles_copy.Given as goal

-- the handles so far share what those so far share
abbrev pub invariant-handles : goal.invariant-handles
invariant-handles g l = shared l.copy.items ≡ shared (take l.handle-index l.handles)
