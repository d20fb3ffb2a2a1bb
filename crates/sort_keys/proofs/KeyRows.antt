-- Keys written out.
use Rattle.std.proofs.Common.{◌≡◌, ◌+◌, ◌*◌, ◌^◌, refl, true, false, [], ◌∷◌, pos, negsuc}
use Rattle.sqlval.specs.declared.collation.Collation.TheVariants.{Binary, NoCase, RTrim}
use Rattle.sqlval.specs.declared.value.Value.TheVariants.{Null, Int, Text, Blob}
use Rattle.sort_keys.specs.Keys.{prefix_number, value_key}

null : value_key (record { collation = Binary; descending = false }) Null ≡ 1 ∷ []
null = refl

one : value_key (record { collation = Binary; descending = false }) (Int (pos 1)) ≡ 2 ∷ 128 ∷ 0 ∷ 0 ∷ 0 ∷ 0 ∷ 0 ∷ 0 ∷ 1 ∷ []
one = refl

minus_one : value_key (record { collation = Binary; descending = false }) (Int (negsuc 0)) ≡ 2 ∷ 127 ∷ 255 ∷ 255 ∷ 255 ∷ 255 ∷ 255 ∷ 255 ∷ 255 ∷ []
minus_one = refl

-- 'aB'
letters : value_key (record { collation = NoCase; descending = false }) (Text (97 ∷ 66 ∷ [])) ≡ 3 ∷ 97 ∷ 98 ∷ 0 ∷ 0 ∷ []
letters = refl

-- 'a '
trailing_space : value_key (record { collation = RTrim; descending = false }) (Text (97 ∷ 32 ∷ [])) ≡ 3 ∷ 97 ∷ 0 ∷ 0 ∷ []
trailing_space = refl

-- x'0001' under a descending key
falling : value_key (record { collation = Binary; descending = true }) (Blob (0 ∷ 1 ∷ [])) ≡ 251 ∷ 255 ∷ 0 ∷ 254 ∷ 255 ∷ 255 ∷ []
falling = refl

two_bytes : prefix_number (1 ∷ 2 ∷ []) ≡ 2 ^ 120 + 2 * 2 ^ 112
unfolding prefix_number
two_bytes = refl
