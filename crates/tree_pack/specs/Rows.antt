-- Rows whose numbers rise, and the keys between their parts.
use Rattle.std.specs.Prelude.{◌≤◌, ◌+◌, ◌-◌, ℕ, ℤ, ◌<ℤ◌, ◌≤ℤ◌, List, [], ◌∷◌, ⊤}

-- the numbers rise, above `low` and up to `high`
abbrev pub Rises : {X : Type 0} → ℤ → List (ℤ × X) → ℤ → Type 0
Rises low [] high = low ≤ℤ high
Rises low (row ∷ rows) high = (low <ℤ row.0) × Rises row.0 rows high

-- the last number, or the one given if there is none
abbrev pub last_number : {X : Type 0} → ℤ → List (ℤ × X) → ℤ
last_number none [] = none
last_number none (row ∷ rows) = last_number row.0 rows

-- this holds of each child from the key before it up to its own, and of the last child up to `high`
abbrev pub Parted : {T : Type 0} → (ℤ → T → ℤ → Type 0) → ℤ → List (T × ℤ) → T → ℤ → Type 0
Parted P low [] last high = P low last high
Parted P low (kid ∷ kids) last high = P low kid.0 kid.1 × Parted P kid.1 kids last high

-- each part, with what goes up after it, lies within so many cells
abbrev pub LieWithin : ℕ → List ℕ → ℕ → Type 0
LieWithin up [] len = ⊤
LieWithin up (count ∷ counts) len = (1 ≤ count) × (count + up ≤ len) × LieWithin up counts (len - (count + up))
