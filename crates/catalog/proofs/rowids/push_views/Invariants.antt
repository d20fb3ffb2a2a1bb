use Rattle.std.specs.Prelude.{◌≡◌, ◌++◌, map, take}
use Rattle.catalog.specs.Listed.{shared}
use Rattle.catalog.proofs.rowids.push_views.Given as goal

-- those that were there, and those of the views so far
abbrev pub invariant-views : goal.invariant-views
invariant-views l = l.rowids.items ≡ l.fn.rowids.items ++ map (λ v. v.rowid) (shared (take l.view-index l.views))
