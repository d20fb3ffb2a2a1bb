use Rattle.std.specs.Prelude.{◌≡◌, take}
use Rattle.catalog.specs.Listed.{shared, without_table}
use Rattle.catalog.proofs.handles.other_handles.Given as goal

-- the handles so far share the tables so far that don't have the name
abbrev pub invariant-tables : goal.invariant-tables
invariant-tables l = shared l.left.items ≡ without_table l.name (shared (take l.table-index l.tables))
