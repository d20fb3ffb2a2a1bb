use Rattle.std.proofs.Common.{◌≡◌, map, take, slice_index_or}
use Rattle.sqlval.specs.declared.value.Value.TheVariants.{Null}
use Rattle.index_entries.proofs.columns.key_of.Given as goal

abbrev pub invariant-columns : goal.invariant-columns
invariant-columns l = l.key.items ≡ map (λ column. slice_index_or l.values column.place Null) (take l.column-index l.columns)
