use Rattle.std.proofs.Common.{◌≡◌, ℕ, List, drop, map, false}
use Rattle.query_names.specs.Bound.{is_twice_named}
use Rattle.query_names.specs.Checked.{known_all, onto_list}
use Rattle.query_names.specs.Creating.{as_bound, as_written, key_known}
use Rattle.query_names.proofs.keys.bound_keys.Given as goal

-- what is left of the keys decides
abbrev pub invariant-keys : goal.invariant-keys
invariant-keys l = (table : List ℕ) → is_twice_named l.columns ≡ false
    → onto_list (map as_bound l.keys.items) (known_all (map (λ key. key_known table l.columns (as_written key)) (drop l.key-index l.written)))
    ≡ known_all (map (λ key. key_known table l.columns (as_written key)) l.written)
