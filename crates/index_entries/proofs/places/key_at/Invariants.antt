-- the values of the columns up to a place
use Rattle.std.proofs.Common.{◌≡◌, map, take, slice_index_or}
use Rattle.sqlval.specs.declared.value.Value.TheVariants.{Null}
use Rattle.query_terms.specs.Rows.{row_at}
use Rattle.index_entries.proofs.places.key_at.Given as goal

abbrev pub invariant-columns : goal.invariant-columns
invariant-columns l = l.key.items ≡ map (λ column. slice_index_or (row_at l.rows l.place).values column.place Null) (take l.column-index l.columns)
