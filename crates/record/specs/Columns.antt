-- The values in bytes, each by itself: of a record they are its values (Database File Format, "Record Format").
use Rattle.std.specs.Prelude.{◌≡◌, ℕ, zero, suc, List, [], ◌∷◌, length, take, drop, nat_lt, if◌then◌else◌, Option, Some, None, option_map, Result, Ok, Err}
use Rattle.sqlval.specs.declared.value.Value.{Value}
use Rattle.sqlval.specs.declared.value.Value.TheVariants.{Null}
use Rattle.record.specs.declared.field.Wrong.{Wrong}
use Rattle.record.specs.Varint.{varint_at}
use Rattle.record.specs.Record.{IsRecord}
use Rattle.record.specs.Reading.{body_len, body_at, column_at, halves_at}

-- the value that was read, or NULL
abbrev pub or_null : Result (Value × List ℕ × List ℕ) Wrong → Value
or_null (Ok column) = column.0
or_null (Err wrong) = Null

-- the value of a body, or NULL
abbrev pub body_or_null : Result Value Wrong → Value
body_or_null (Ok value) = value
body_or_null (Err wrong) = Null

-- the value of this type at the front of bodies; NULL where it can't be read
abbrev pub value_typed : ℕ → List ℕ → Value
value_typed serial bodies = if nat_lt (length bodies) (body_len serial) then Null else body_or_null (body_at serial (take (body_len serial) bodies))

-- the value at the front of types and bodies; NULL where none can be read
abbrev pub value_here : List ℕ → List ℕ → Value
value_here types bodies = or_null (column_at types bodies)

-- what a value leaves of types and bodies, whatever its body says
abbrev pub left_after : List ℕ → List ℕ → Option (List ℕ × List ℕ)
left_after types bodies = option_map (λ serial. (serial.1, drop (body_len serial.0) bodies)) (varint_at types)

-- a value and those after it, where there is one
abbrev pub and_those_after : Value → (List ℕ → List ℕ → List Value) → Option (List ℕ × List ℕ) → List Value
and_those_after value others None = []
and_those_after value others (Some left) = value ∷ others left.0 left.1

-- the values of at most so many types
abbrev pub values_from : ℕ → List ℕ → List ℕ → List Value
values_from zero types bodies = []
values_from (suc most) types bodies = and_those_after (value_here types bodies) (values_from most) (left_after types bodies)

-- the values that types and bodies have, or none
abbrev pub values_of_halves : Result (List ℕ × List ℕ) Wrong → List Value
values_of_halves (Ok halves) = values_from (length halves.0) halves.0 halves.1
values_of_halves (Err wrong) = []

-- the values in these bytes: one for each type, NULL where its body can't be read
abbrev pub values_in : List ℕ → List Value
values_in bytes = values_of_halves (halves_at bytes)

-- in the bytes of a record lie its values
abbrev pub HoldsValues : Type 0
HoldsValues = (bytes : List ℕ) (values : List Value) → IsRecord bytes values → values_in bytes ≡ values
