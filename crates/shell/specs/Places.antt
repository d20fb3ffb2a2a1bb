-- The line of a text that holds a place.
use Rattle.std.specs.Prelude.{◌≡◌, ℕ, ◌-◌, ◌<◌, ◌≤◌, ◌≢◌, ◌⊎◌, List, [], ◌∷◌, ◌++◌, ◌==◌, if◌then◌else◌, length, min, slice_index, slice_range, codes}
use Rattle.std.specs.List.{flat_map}
use Rattle.shell.specs.Bytes.{begins_character}

-- a line begins here that goes on up to a place: no line feed is between, and one is before, or nothing
abbrev pub BeginsLine : List ℕ → ℕ → ℕ → Type 0
BeginsLine text at start = (start ≤ at) × ((k : ℕ) → start ≤ k → k < at → slice_index text k ≢ 10)
    × ((start ≡ 0) ⊎ (slice_index text (start - 1) ≡ 10))

-- a line ends here that holds a place: no line feed is between, and one is here, or nothing
abbrev pub EndsLine : List ℕ → ℕ → ℕ → Type 0
EndsLine text at end = (at ≤ end) × (end ≤ length text) × ((k : ℕ) → at ≤ k → k < end → slice_index text k ≢ 10)
    × ((end ≡ length text) ⊎ (slice_index text end ≡ 10))

-- what takes the width of a byte
abbrev pub room : ℕ → List ℕ
room b = if b == 9 then 9 ∷ [] else (if begins_character b then 32 ∷ [] else [])

-- a caret after the width of a text
abbrev pub caret : List ℕ → List ℕ
caret before = flat_map room before ++ codes "^" ++ 10 ∷ []

-- the line of a text that holds a place, and a caret under it, were written after what stood there
pub record HasPlace (text : List ℕ) (place : ℕ) (old new : List ℕ) : Type 0 where
  pub start : ℕ
  pub end : ℕ
  pub begins : BeginsLine text (min place (length text)) start
  pub ends : EndsLine text (min place (length text)) end
  pub written : new ≡ old ++ slice_range text start end ++ 10 ∷ [] ++ caret (slice_range text start (min place (length text)))
