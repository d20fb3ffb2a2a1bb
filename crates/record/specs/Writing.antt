-- The writer's spelling of a record (Database File Format, "Record Format").
use Rattle.std.specs.Prelude.{◌≤◌, ◌<◌, slice_index, All, ◌+◌, ◌*◌, ◌^◌, ℕ, ℤ, pos, negsuc, List, [], ◌++◌, length, nat_lt, ⊤, if◌then◌else◌}
use Rattle.std.specs.Int.{w64}
use Rattle.std.specs.Int.RustNames.{FitsSigned}
use Rattle.std.specs.Str.{IsUtf8}
use Rattle.std.specs.List.{flat_map}
use Rattle.byteorder.specs.Endian.{big_bytes, low_bytes}
use Rattle.sqlval.specs.declared.value.Value.{Value}
use Rattle.sqlval.specs.declared.value.Value.TheVariants.{Null, Int, Text, Blob}
use Rattle.record.specs.Varint.{varint}
use Rattle.record.specs.Record.{width}

-- each number is a byte
abbrev pub IsBytes : List ℕ → Type 0
IsBytes bytes = (i : ℕ) → slice_index bytes i < 256

-- a text or a blob of at most 1,000,000 bytes, or another value
abbrev pub IsStorable : Value → Type 0
IsStorable Null = ⊤
IsStorable (Int n) = ⊤
IsStorable (Text t) = length t ≤ 1000000
IsStorable (Blob b) = length b ≤ 1000000

-- a row that a record can hold: at most 1000 values, each storable
abbrev pub AreStorable : List Value → Type 0
AreStorable values = (length values ≤ 1000) × All IsStorable values

-- what every value of the program meets
abbrev pub Fits : Value → Type 0
Fits Null = ⊤
Fits (Int n) = FitsSigned w64 n
Fits (Text t) = IsUtf8 t
Fits (Blob b) = ⊤

-- the type of an integer that lies so many steps from 0 or from -1
unfoldable pub wide_type : ℕ → ℕ
wide_type steps =
    if nat_lt steps (2 ^ 7) then 1
    else (if nat_lt steps (2 ^ 15) then 2
    else (if nat_lt steps (2 ^ 23) then 3 else (if nat_lt steps (2 ^ 31) then 4 else (if nat_lt steps (2 ^ 47) then 5 else 6))))

-- the smallest type that holds an integer
abbrev pub int_type : ℤ → ℕ
int_type (pos n) = if nat_lt n 2 then 8 + n else wide_type n
int_type (negsuc n) = wide_type n

-- the smallest type that holds the value
abbrev pub serial_of : Value → ℕ
serial_of Null = 0
serial_of (Int n) = int_type n
serial_of (Text t) = 13 + 2 * length t
serial_of (Blob b) = 12 + 2 * length b

-- an integer big-endian at one of the types 1 to 6
abbrev pub wide_bytes : ℕ → ℤ → List ℕ
wide_bytes serial n = big_bytes (width serial) (low_bytes w64 (width serial) n)

-- the body of an integer
abbrev pub int_bytes : ℤ → List ℕ
int_bytes (pos n) = if nat_lt n 2 then [] else wide_bytes (wide_type n) (pos n)
int_bytes (negsuc n) = wide_bytes (wide_type n) (negsuc n)

-- the body of a value
unfoldable pub body_of : Value → List ℕ
body_of Null = []
body_of (Int n) = int_bytes n
body_of (Text t) = t
body_of (Blob b) = b

-- the spelling of a value's type
unfoldable pub type_of : Value → List ℕ
type_of value = varint (serial_of value)

-- the length of a header with so many bytes of types, itself counted, in the fewest bytes
unfoldable pub header_len : ℕ → ℕ
header_len types = if nat_lt types 127 then types + 1 else types + 2

-- a header, the types and the bodies
abbrev pub with_header : List ℕ → List ℕ → List ℕ
with_header types bodies = varint (header_len (length types)) ++ (types ++ bodies)

-- the record that is written
unfoldable pub record_of : List Value → List ℕ
record_of values = with_header (flat_map type_of values) (flat_map body_of values)
