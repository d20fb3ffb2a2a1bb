-- Reading a record from left to right, with the first fault that is met.
use Rattle.std.specs.Prelude.{◌≡◌, ◌-◌, ◌/◌, ◌%◌, ℕ, zero, suc, pos, List, [], ◌∷◌, length, take, drop, Option, Some, None, Result, Ok, Err, ◌==◌, nat_lt, if◌then◌else◌}
use Rattle.std.specs.Str.{is_utf8}
use Rattle.byteorder.specs.Endian.{big_number, twos_complement}
use Rattle.sqlval.specs.declared.value.Value.{Value}
use Rattle.sqlval.specs.declared.value.Value.TheVariants.{Null, Int, Text, Blob}
use Rattle.record.specs.Varint.{varint_at}
use Rattle.record.specs.Record.{IsRecord}
use Rattle.record.specs.declared.field.Wrong.{Wrong}
use Rattle.record.specs.declared.field.Wrong.TheVariants.{Float, Broken}
use Rattle.sqlval.specs.declared.fault.Fault.{Fault}
use Rattle.sqlval.specs.declared.fault.Fault.TheVariants.{Unsupported, Damaged}
use Rattle.sqlval.specs.declared.fault.Feature.TheVariants as Feature
use Rattle.sqlval.specs.declared.fault.Damage.TheVariants as Damage

-- a step, and what goes on from what it gave
infixl 10 ◌>>=◌
abbrev pub ◌>>=◌ : {A B : Type 0} → Result A Wrong → (A → Result B Wrong) → Result B Wrong
(Ok x) >>= f = f x
(Err e) >>= f = Err e

-- What a function returned, seen by view, is what reading gives.
abbrev pub Reads : {X Y : Type 0} → (X → Y) → Result X Wrong → Result Y Wrong → Type 0
Reads view (Ok x) read = read ≡ Ok (view x)
Reads view (Err e) read = read ≡ Err e

-- a number that has to be there
abbrev pub or_broken : {X : Type 0} → Option X → Result X Wrong
or_broken None = Err Broken
or_broken (Some x) = Ok x

-- how many bytes a value of this type takes
unfoldable pub body_len : ℕ → ℕ
body_len serial =
    if nat_lt serial 5 then serial
    else (if serial == 5 then 6 else (if nat_lt serial 8 then 8 else (if nat_lt serial 12 then 0 else (serial - 12) / 2)))

-- the text with these bytes
abbrev pub text_at : List ℕ → Result Value Wrong
text_at body = if is_utf8 body then Ok (Text body) else Err Broken

-- the value with this type and this body
unfoldable pub body_at : ℕ → List ℕ → Result Value Wrong
body_at serial body =
    if serial == 0 then Ok Null
    else (if nat_lt serial 7 then Ok (Int (twos_complement (length body) (big_number (length body) body)))
    else (if serial == 7 then Err Float
    else (if serial == 8 then Ok (Int (pos 0))
    else (if serial == 9 then Ok (Int (pos 1))
    else (if nat_lt serial 12 then Err Broken
    else (if serial % 2 == 0 then Ok (Blob body)
    else text_at body))))))

-- a value, and what is left of the types and of the bodies
unfoldable pub column_at : List ℕ → List ℕ → Result (Value × List ℕ × List ℕ) Wrong
column_at types bodies = do
  serial ← or_broken (varint_at types)
  if nat_lt (length bodies) (body_len serial.0) then Err Broken else body_at serial.0 (take (body_len serial.0) bodies) >>= λ value. Ok (value, serial.1, drop (body_len serial.0) bodies)

-- at most so many values, as long as types are left
unfoldable pub columns_at : ℕ → List ℕ → List ℕ → Result (List Value) Wrong
columns_at most [] bodies = if length bodies == 0 then Ok [] else Err Broken
columns_at zero (byte ∷ types) bodies = Err Broken
columns_at (suc most) (byte ∷ types) bodies = do
  column ← column_at (byte ∷ types) bodies
  values ← columns_at most column.1 column.2
  Ok (column.0 ∷ values)

-- the types and the bodies after a length of `front` bytes that says `whole`, itself counted
abbrev pub split_header : ℕ → ℕ → List ℕ → Result (List ℕ × List ℕ) Wrong
split_header front whole rest =
    if nat_lt whole front then Err Broken
    else (if nat_lt (length rest) (whole - front) then Err Broken else Ok (take (whole - front) rest, drop (whole - front) rest))

-- the types and the bodies of a record
unfoldable pub halves_at : List ℕ → Result (List ℕ × List ℕ) Wrong
halves_at bytes = do
  head ← or_broken (varint_at bytes)
  split_header (length bytes - length head.1) head.0 head.1

-- the values of a record, or the first fault from the left
unfoldable pub record_at : List ℕ → Result (List Value) Wrong
record_at bytes = do
  halves ← halves_at bytes
  columns_at (length halves.0) halves.0 halves.1

-- the bytes of a record are read as its values
abbrev pub ReadsRecords : Type 0
ReadsRecords = (bytes : List ℕ) (values : List Value) → IsRecord bytes values → record_at bytes ≡ Ok values

-- the refusal of each fault
abbrev pub fault_of : Wrong → Fault
fault_of Float = Unsupported Feature.Float
fault_of Broken = Damaged Damage.Record 0

-- what a reading answers to a caller
abbrev pub answer : {X : Type 0} → Result X Wrong → Result X Fault
answer (Ok x) = Ok x
answer (Err wrong) = Err (fault_of wrong)
