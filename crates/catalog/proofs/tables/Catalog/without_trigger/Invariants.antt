use Rattle.std.specs.Prelude.{◌≡◌, take}
use Rattle.catalog.specs.Listed.{shared, without_trigger}
use Rattle.catalog.proofs.tables.Catalog.without_trigger.Given as goal

-- the handles so far share the triggers so far that don't have the name
abbrev pub invariant-triggers : goal.invariant-triggers
invariant-triggers l = shared l.triggers.items ≡ without_trigger l.fn.name (shared (take l.trigger-index l.self.triggers.items))
