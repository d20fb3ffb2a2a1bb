use Rattle.std.specs.Prelude.{◌≡◌, flat_map, take}
use Rattle.catalog.specs.Listed.{rowids_in, shared}
use Rattle.catalog.proofs.rowids.table_rowids.Given as goal

-- those of the tables so far
abbrev pub invariant-tables : goal.invariant-tables
invariant-tables l = l.rowids.items ≡ flat_map rowids_in (shared (take l.table-index l.tables))
