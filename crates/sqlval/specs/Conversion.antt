-- The value that an affinity makes of another (Datatypes In SQLite, "Type Affinity").
use Rattle.std.specs.Prelude.{ℕ, ◌^◌, ◌-◌, Bool, not, ◌&&◌, List, length, ℤ, pos, negsuc, int_lt, Option, Some, None, Ok, Err, if◌then◌else◌, nat_lt}
use Rattle.std.specs.List.{list_all}
use Rattle.std.specs.Char.{is_ascii_digit}
use Rattle.std.specs.Fmt.{signed_decimal}
use Rattle.std.specs.Str.Parse.{without_leading_sign, signed_digits_value}
use Rattle.sqlval.specs.Affinity.{is_number}
use Rattle.sqlval.specs.Refusals.{Answer, RealRefused}
use Rattle.sqlval.specs.declared.affinity.Affinity.{Affinity}
use Rattle.sqlval.specs.declared.affinity.Affinity.TheVariants as to
use Rattle.sqlval.specs.declared.value.Value.{Value}
use Rattle.sqlval.specs.declared.value.Value.TheVariants.{Int, Text}

-- a whole number of 64 bits
abbrev pub is_word : ℤ → Bool
is_word n = not (int_lt n (negsuc (2 ^ 63 - 1))) && int_lt n (pos (2 ^ 63))

-- the number, if it has 64 bits
abbrev pub word : ℤ → Answer Value
word n = if is_word n then Ok (Int n) else Err RealRefused

abbrev pub are_digits : List ℕ → Bool
are_digits text = nat_lt 0 (length text) && list_all is_ascii_digit text

-- the number of a text that is a sign or none and digits
abbrev pub whole : List ℕ → Option ℤ
whole text = if are_digits (without_leading_sign text) then Some (signed_digits_value 10 text) else None

-- a text where numbers are wanted: of another shape than a whole number's it is a real, or stays
abbrev pub to_number : List ℕ → Option ℤ → Answer Value
to_number text (Some n) = word n
to_number text None = if is_number text then Err RealRefused else Ok (Text text)

-- a value under an affinity
abbrev pub converted : Affinity → Value → Answer Value
converted to.Integer (Text text) = to_number text (whole text)
converted to.Numeric (Text text) = to_number text (whole text)
converted to.Text (Int n) = Ok (Text (signed_decimal n))
converted affinity value = Ok value
