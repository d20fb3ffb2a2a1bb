-- nothing for each of the columns so far
use Rattle.std.proofs.Common.{◌≡◌, map, take, None}
use Rattle.catalog.specs.declared.tables.Column.{Column}
use Rattle.executor.proofs.rows.no_places.Given as goal

abbrev pub invariant-columns : goal.invariant-columns
invariant-columns l = l.made.items ≡ map (λ (column : Column). None) (take l.index l.columns)
