use Rattle.std.proofs.Common.{◌≡◌, map, take}
use Rattle.catalog.specs.Listed.{key_columns}
use Rattle.query_names.specs.Creating.{as_bound, other_keys}
use Rattle.query_names.proofs.keys.other_keys.Given as goal

-- those so far are copied
abbrev pub invariant-keys : goal.invariant-keys
invariant-keys l = map key_columns l.left.items ≡ other_keys l.columns (map as_bound (take l.key-index l.keys))
