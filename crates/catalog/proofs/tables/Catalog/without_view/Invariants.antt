use Rattle.std.specs.Prelude.{◌≡◌, take}
use Rattle.catalog.specs.Listed.{shared, without_view}
use Rattle.catalog.proofs.tables.Catalog.without_view.Given as goal

-- the handles so far share the views so far that don't have the name
abbrev pub invariant-views : goal.invariant-views
invariant-views l = shared l.views.items ≡ without_view l.fn.name (shared (take l.view-index l.self.views.items))
