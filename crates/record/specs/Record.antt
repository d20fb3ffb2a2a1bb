-- What bytes are a record of which values (Database File Format, "Record Format").
use Rattle.std.specs.Prelude.{◌≡◌, ◌⊎◌, ◌≤◌, ◌+◌, ◌*◌, ℕ, ℤ, pos, List, [], ◌∷◌, ◌++◌, length, ◌==◌, if◌then◌else◌}
use Rattle.std.specs.Str.{IsUtf8}
use Rattle.byteorder.specs.Endian.{big_number, twos_complement}
use Rattle.sqlval.specs.declared.value.Value.{Value}
use Rattle.sqlval.specs.declared.value.Value.TheVariants.{Null, Int, Text, Blob}
use Rattle.record.specs.Varint.{IsVarint}

-- how many bytes an integer of each of the types 1 to 6 takes
abbrev pub width : ℕ → ℕ
width serial = if serial == 5 then 6 else (if serial == 6 then 8 else serial)

-- an integer big-endian in two's complement, at one of the types 1 to 6
pub record IsWide (serial : ℕ) (body : List ℕ) (n : ℤ) : Type 0 where
  pub low : 1 ≤ serial
  pub high : serial ≤ 6
  pub len : length body ≡ width serial
  pub value : n ≡ twos_complement (width serial) (big_number (width serial) body)

-- the body of a value at a serial type (Database File Format, "Record Format", table of serial types)
abbrev pub IsBody : ℕ → List ℕ → Value → Type 0
IsBody serial body Null = (serial ≡ 0) × (body ≡ [])
IsBody serial body (Int n) =
    ((serial ≡ 8) × (body ≡ []) × (n ≡ pos 0)) ⊎ (((serial ≡ 9) × (body ≡ []) × (n ≡ pos 1)) ⊎ IsWide serial body n)
IsBody serial body (Text t) = (serial ≡ 13 + 2 * length t) × (body ≡ t) × IsUtf8 t
IsBody serial body (Blob b) = (serial ≡ 12 + 2 * length b) × (body ≡ b)

-- a value's serial type stands at the front of types, and its body at the front of bodies
pub record IsColumn (types bodies : List ℕ) (value : Value) (types_left bodies_left : List ℕ) : Type 0 where
  pub serial : ℕ
  pub type : List ℕ
  pub body : List ℕ
  pub types_are : types ≡ type ++ types_left
  pub bodies_are : bodies ≡ body ++ bodies_left
  pub type_is : IsVarint type serial
  pub body_is : IsBody serial body value

-- the serial types in order, and the bodies in the same order
abbrev pub AreColumns : List ℕ → List ℕ → List Value → Type 0
AreColumns types bodies [] = (types ≡ []) × (bodies ≡ [])
AreColumns types bodies (value ∷ values) =
    (types_left : List ℕ) × (bodies_left : List ℕ) × IsColumn types bodies value types_left bodies_left × AreColumns types_left bodies_left values

-- the length of the header, itself counted, then the types, then the bodies
pub record IsRecord (bytes : List ℕ) (values : List Value) : Type 0 where
  pub head : List ℕ
  pub types : List ℕ
  pub bodies : List ℕ
  pub parts : bytes ≡ head ++ (types ++ bodies)
  pub head_is : IsVarint head (length head + length types)
  pub columns : AreColumns types bodies values

-- bytes are the record of at most one list of values
abbrev pub DetermineValues : Type 0
DetermineValues = (bytes : List ℕ) (some others : List Value) → IsRecord bytes some → IsRecord bytes others → some ≡ others
