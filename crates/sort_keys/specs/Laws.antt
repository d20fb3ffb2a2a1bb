-- What holds of keys.
use Rattle.std.specs.Prelude.{◌≡◌, ◌<◌, ◌+◌, ℕ, List, [], ◌∷◌, All, length, slice_get, unwrap_or}
use Rattle.std.specs.Cmp.Lexicographic.{slice_cmp}
use Rattle.std.specs.Ordering.{nat_cmp, ordering_then}
use Rattle.std.specs.declared.cmp.Ordering.{Ordering}
use Rattle.std.specs.declared.cmp.Ordering.TheVariants.{Less, Equal, Greater}
use Rattle.sqlval.specs.Lists.{SortKey, key_cmp, keys_cmp}
use Rattle.sqlval.specs.declared.value.Value.{Value}
use Rattle.sqlval.specs.declared.value.Value.TheVariants.{Null}
use Rattle.sort_keys.specs.Keys.{AreBytes, IsHeld, prefix_number, values_key}

-- how lists of values stand by the keys from a place on, a missing value being NULL; the first that differs decides
abbrev pub cmp_from : ℕ → List SortKey → List Value → List Value → Ordering
cmp_from i [] vs ws = Equal
cmp_from i (k ∷ ks) vs ws =
    ordering_then (key_cmp k (unwrap_or (slice_get vs i) Null) (unwrap_or (slice_get ws i) Null)) (cmp_from (i + 1) ks vs ws)

-- keys stand as the values of which they are
abbrev pub KeysStandAsValues : Type 0
KeysStandAsValues = (ks : List SortKey) (vs ws : List Value) → All IsHeld vs → All IsHeld ws
    → slice_cmp nat_cmp (values_key ks vs) (values_key ks ws) ≡ cmp_from 0 ks vs ws

-- the same of as many values on both sides
abbrev pub FullKeysStandAsValues : Type 0
FullKeysStandAsValues = (ks : List SortKey) (vs ws : List Value) → All IsHeld vs → All IsHeld ws → length vs ≡ length ws
    → slice_cmp nat_cmp (values_key ks vs) (values_key ks ws) ≡ keys_cmp ks vs ws

-- bytes stand as the numbers that their first sixteen spell, where these differ
abbrev pub PrefixesStandFirst : Type 0
PrefixesStandFirst = (a b : List ℕ) → AreBytes a → AreBytes b
    → (prefix_number a < prefix_number b → slice_cmp nat_cmp a b ≡ Less)
    × (prefix_number b < prefix_number a → slice_cmp nat_cmp a b ≡ Greater)
