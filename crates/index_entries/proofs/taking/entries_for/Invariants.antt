use Rattle.std.proofs.Common.{◌≡◌, map, take}
use Rattle.index_entries.specs.Entries.{indexed}
use Rattle.index_entries.specs.Keeping.{columns_in, row_in}
use Rattle.index_entries.proofs.taking.entries_for.Given as goal

abbrev pub invariant-rows : goal.invariant-rows
invariant-rows l = l.entries.items ≡ map (λ row. indexed (columns_in l.columns) (row_in row)) (take l.row-index l.rows)
