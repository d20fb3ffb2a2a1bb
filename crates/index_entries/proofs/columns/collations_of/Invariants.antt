use Rattle.std.proofs.Common.{◌≡◌, map, take}
use Rattle.index_entries.proofs.columns.collations_of.Given as goal

abbrev pub invariant-columns : goal.invariant-columns
invariant-columns l = l.them.items ≡ map (λ column. column.collation) (take l.column-index l.columns)
