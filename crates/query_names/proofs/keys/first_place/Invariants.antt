use Rattle.std.proofs.Common.{◌≡◌, drop, map}
use Rattle.query_names.specs.Creating.{as_bound, rowid_place}
use Rattle.query_names.specs.Tables.{first_some}
use Rattle.query_names.proofs.keys.first_place.Given as goal

-- what is left decides
abbrev pub invariant-keys : goal.invariant-keys
invariant-keys l = first_some (rowid_place l.columns) (map as_bound (drop l.key-index l.keys)) ≡ first_some (rowid_place l.columns) (map as_bound l.keys)
