use Rattle.std.proofs.Common.{◌≡◌, ◌++◌, flat_map, map, take}
use Rattle.query_names.specs.Creating.{as_written}
use Rattle.query_names.specs.Tables.{column_key}
use Rattle.query_names.proofs.keys.push_of_columns.Given as goal

-- the keys of the columns so far are pushed
abbrev pub invariant-columns : goal.invariant-columns
invariant-columns l = map as_written l.found.items ≡ map as_written l.fn.found.items ++ flat_map (λ c. flat_map (column_key c.name) c.rules) (take l.column-index l.columns)
