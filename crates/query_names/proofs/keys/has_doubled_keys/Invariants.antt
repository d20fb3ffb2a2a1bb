use Rattle.std.proofs.Common.{◌≡◌, drop, map}
use Rattle.sqlval.specs.Lists.{any_twice}
use Rattle.query_names.specs.Creating.{are_doubled, as_written}
use Rattle.query_names.proofs.keys.has_doubled_keys.Given as goal

-- what is left decides
abbrev pub invariant-keys : goal.invariant-keys
invariant-keys l = any_twice are_doubled (map as_written (drop l.place l.keys)) ≡ any_twice are_doubled (map as_written l.keys)
