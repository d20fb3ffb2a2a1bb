-- Values that the caller wrote as bytes.
use Rattle.std.specs.Prelude.{◌≡◌, ◌<◌, ◌^◌, ℕ, List, length, FitsSigned}
use Rattle.std.specs.Int.{w64}
use Rattle.std.specs.List.{flat_map, AllByRecursion}
use Rattle.std.specs.Str.{IsUtf8}
use Rattle.kinolavust_c.specs.Replies.{value_bytes}
use Rattle.sqlval.specs.declared.value.Value.{Value}
use Rattle.sqlval.specs.declared.value.Value.TheVariants.{Null, Int, Text, Blob}

-- a value of the engine: an integer of 64 bits, a text in UTF-8, and fewer than 2^64 bytes
abbrev pub IsWritable : Value → Type 0
IsWritable Null = Unit {0}
IsWritable (Int n) = FitsSigned w64 n
IsWritable (Text text) = IsUtf8 text × (length text < 2 ^ 64)
IsWritable (Blob blob) = length blob < 2 ^ 64

-- these are the bytes of the values, one after another
abbrev pub AreBytesOf : List Value → List ℕ → Type 0
AreBytesOf values bytes = AllByRecursion IsWritable values × (bytes ≡ flat_map value_bytes values)
