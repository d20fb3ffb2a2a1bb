-- How two ways to say that rows clash stand to each other.
use Rattle.std.specs.Prelude.{◌≡◌, true}
use Rattle.catalog.specs.Database.{Index}
use Rattle.query_names.specs.Keys.{clash}
use Rattle.index_entries.specs.Alone.{clashes}
use Rattle.index_entries.specs.Entries.{Row}

-- two rows clash by the entries of a UNIQUE index exactly where they do by its definition
abbrev pub ClashesAlike : Type 0
ClashesAlike = (i : Index) (row other : Row) → i.is_unique ≡ true → clashes i.columns row other ≡ clash i row.1 other.1
