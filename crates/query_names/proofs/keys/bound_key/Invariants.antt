use Rattle.std.proofs.Common.{◌≡◌, ℕ, List, drop, map, false}
use Rattle.catalog.specs.Listed.{key_columns}
use Rattle.query_names.specs.Bound.{is_twice_named}
use Rattle.query_names.specs.Checked.{known_all, onto_list}
use Rattle.query_names.proofs.KeyNames.{column_known}
use Rattle.query_names.proofs.keys.bound_key.Given as goal

-- what is left of the names decides
abbrev pub invariant-names : goal.invariant-names
invariant-names l = (table : List ℕ) → is_twice_named l.columns ≡ false
    → onto_list (key_columns l.found.items) (known_all (map (column_known table l.columns) (drop l.name-index l.names))) ≡ known_all (map (column_known table l.columns) l.names)
