use Rattle.std.proofs.Common.{◌≡◌, ◌++◌, flat_map, map, take}
use Rattle.query_names.specs.Creating.{as_written}
use Rattle.query_names.specs.Tables.{column_key}
use Rattle.query_names.proofs.keys.push_of_column.Given as goal

-- the keys of the rules so far are pushed
abbrev pub invariant-rules : goal.invariant-rules
invariant-rules l = map as_written l.found.items ≡ map as_written l.fn.found.items ++ flat_map (column_key l.name) (take l.rule-index l.rules)
