use Rattle.std.proofs.Common.{◌≡◌, ◌++◌, flat_map, map, take}
use Rattle.query_names.specs.Creating.{as_written}
use Rattle.query_names.specs.Tables.{table_key}
use Rattle.query_names.proofs.keys.push_of_table.Given as goal

-- the keys of the rules so far are pushed
abbrev pub invariant-rules : goal.invariant-rules
invariant-rules l = map as_written l.found.items ≡ map as_written l.fn.found.items ++ flat_map table_key (take l.rule-index l.rules)
