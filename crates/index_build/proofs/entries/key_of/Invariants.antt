-- the values of the columns so far
use Rattle.std.proofs.Common.{◌≡◌, map, slice_index_or, take}
use Rattle.sqlval.specs.declared.value.Value.TheVariants.{Null}
use Rattle.index_build.proofs.entries.key_of.Given as goal

abbrev pub invariant-columns : goal.invariant-columns
invariant-columns l = l.key.items ≡ map (λ column. slice_index_or l.row.values column.place Null) (take l.column-index l.columns)
