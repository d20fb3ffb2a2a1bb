use Rattle.std.specs.Prelude.{◌≡◌, take}
use Rattle.catalog.specs.Listed.{shared, without_triggers_on}
use Rattle.catalog.proofs.handles.triggers_elsewhere.Given as goal

-- the handles so far share the triggers so far of other tables and views
abbrev pub invariant-triggers : goal.invariant-triggers
invariant-triggers l = shared l.left.items ≡ without_triggers_on l.name (shared (take l.trigger-index l.triggers))
