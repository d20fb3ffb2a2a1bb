-- the keys so far are written and held, and those that are left follow
use Rattle.std.proofs.Common.{◌≡◌, ◌<◌, ◌++◌, drop, length, ℕ}
use Rattle.std.specs.Prelude.{slice_get, unwrap_or}
use Rattle.sqlval.specs.declared.value.Value.TheVariants.{Null}
use Rattle.sort_keys.specs.Keys.{IsHeld, keys_from, values_key}
use Rattle.query_names.specs.Readings.{sort_keys}
use Rattle.query_groups.proofs.kept.put_keys.Given as goal

abbrev pub invariant-places : goal.invariant-places
invariant-places l =
    (length l.keys ≡ length l.key_terms → l.out.items ++ keys_from l.place (drop l.place (sort_keys l.key_terms)) l.keys ≡ l.fn.out.items ++ values_key (sort_keys l.key_terms) l.keys)
    × ((i : ℕ) → i < l.place → IsHeld (unwrap_or (slice_get l.keys i) Null))
