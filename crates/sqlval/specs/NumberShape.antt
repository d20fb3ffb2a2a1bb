-- The shape of a number in a text (Datatypes in SQLite, "Type Affinity"): spaces, a sign or none, digits with or without a point, or a
-- point and digits, an exponent or none, spaces.
use Rattle.std.specs.Prelude.{◌≡◌, ◌⊎◌, ◌<◌, ◌+◌, ℕ, Bool, true, List, [], ◌∷◌, ◌++◌, length, ⊤}
use Rattle.std.specs.Char.{is_ascii_digit}
use Rattle.sqlval.specs.Affinity.{is_space, is_number}

-- each of these bytes is so
abbrev pub Each : (ℕ → Bool) → List ℕ → Type 0
Each test [] = ⊤
Each test (b ∷ bs) = (test b ≡ true) × Each test bs

-- `+`, `-` or nothing
pub data IsSign : List ℕ → Type 0 where
  unsigned : IsSign []
  plus_sign : IsSign (43 ∷ [])
  minus_sign : IsSign (45 ∷ [])

-- digits, at least one, and a point or none before, among or after them
pub data IsMantissa : List ℕ → Type 0 where
  integral : {digits : List ℕ} → Each is_ascii_digit digits → 0 < length digits → IsMantissa digits
  pointed : (whole part : List ℕ) → Each is_ascii_digit whole → Each is_ascii_digit part → 0 < length whole + length part → IsMantissa (whole ++ (46 ∷ part))

-- `e` or `E`, a sign or none, and digits; or nothing
pub data IsExponent : List ℕ → Type 0 where
  no_exponent : IsExponent []
  exponent_of : (letter : ℕ) (sign digits : List ℕ) → (letter ≡ 101) ⊎ (letter ≡ 69) → IsSign sign → Each is_ascii_digit digits → 0 < length digits → IsExponent (letter ∷ (sign ++ digits))

pub data IsNumberText : List ℕ → Type 0 where
  number_text : (front sign mantissa exponent back : List ℕ) → Each is_space front → IsSign sign → IsMantissa mantissa → IsExponent exponent → Each is_space back
      → IsNumberText (front ++ (sign ++ (mantissa ++ (exponent ++ back))))

-- the test is passed by the texts of this shape, and by no others
abbrev pub NumbersAreShaped : Type 0
NumbersAreShaped = (text : List ℕ) → (is_number text ≡ true → IsNumberText text) × (IsNumberText text → is_number text ≡ true)
