-- Values as bytes that stand, byte by byte, in the order of the values (Datatypes In SQLite, "Comparison Expressions" and
-- "Collating Sequences").
use Rattle.std.specs.Prelude.{◌<◌, ◌+◌, ◌-◌, ◌*◌, ◌^◌, ◌==◌, ℕ, zero, suc, ℤ, pos, negsuc, List, [], ◌∷◌, ◌++◌, map, if◌then◌else◌, slice_get, slice_index, unwrap_or, ⊤}
use Rattle.std.specs.Int.{w64, to_be_bytes}
use Rattle.std.specs.Int.RustNames.{FitsSigned}
use Rattle.std.specs.List.{flat_map}
use Rattle.sqlval.specs.Lists.{SortKey}
use Rattle.sqlval.specs.Order.{seen_by}
use Rattle.sqlval.specs.declared.collation.Collation.{Collation}
use Rattle.sqlval.specs.declared.value.Value.{Value}
use Rattle.sqlval.specs.declared.value.Value.TheVariants.{Null, Int, Text, Blob}

-- a byte 0 as 0 255
abbrev pub escape : ℕ → List ℕ
escape b = if b == 0 then 0 ∷ 255 ∷ [] else b ∷ []

-- each byte 0 as 0 255, and 0 0 at the end
abbrev pub ended : List ℕ → List ℕ
ended bytes = flat_map escape bytes ++ 0 ∷ 0 ∷ []

-- n + 2^63
abbrev pub above_lowest : ℤ → ℕ
above_lowest (pos n) = 2 ^ 63 + n
above_lowest (negsuc n) = 2 ^ 63 - suc n

-- the kind of a value, and then what a collation sees of it
abbrev pub ascending_key : Collation → Value → List ℕ
ascending_key c Null = 1 ∷ []
ascending_key c (Int n) = 2 ∷ to_be_bytes w64 (above_lowest n)
ascending_key c (Text t) = 3 ∷ ended (seen_by c t)
ascending_key c (Blob b) = 4 ∷ ended b

-- each byte b as 255 - b
abbrev pub complement : List ℕ → List ℕ
complement bytes = map (λ b. 255 - b) bytes

-- the key of a value
abbrev pub value_key : SortKey → Value → List ℕ
value_key k v = if k.descending then complement (ascending_key k.collation v) else ascending_key k.collation v

-- the keys of the values from a place on, one after another; a missing value is NULL
abbrev pub keys_from : ℕ → List SortKey → List Value → List ℕ
keys_from i [] vs = []
keys_from i (k ∷ ks) vs = value_key k (unwrap_or (slice_get vs i) Null) ++ keys_from (i + 1) ks vs

-- the keys of all
abbrev pub values_key : List SortKey → List Value → List ℕ
values_key = keys_from 0

-- the number that so many bytes at the front spell, the most significant first; zeros stand for those that are missing
abbrev pub front_number : ℕ → List ℕ → ℕ
front_number zero bytes = 0
front_number (suc n) [] = 0
front_number (suc n) (b ∷ bytes) = b * 256 ^ n + front_number n bytes

-- that of the first sixteen
unfoldable pub prefix_number : List ℕ → ℕ
prefix_number bytes = front_number 16 bytes

-- each number is a byte
abbrev pub AreBytes : List ℕ → Type 0
AreBytes bytes = (i : ℕ) → slice_index bytes i < 256

-- what every value of the program meets: an integer has 64 bits, and a text and a blob are bytes
abbrev pub IsHeld : Value → Type 0
IsHeld Null = ⊤
IsHeld (Int n) = FitsSigned w64 n
IsHeld (Text t) = AreBytes t
IsHeld (Blob b) = AreBytes b
