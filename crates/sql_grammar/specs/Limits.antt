-- Limits that the text of a statement shows.
use Rattle.std.specs.Prelude.{Bool, true, nat_le, List, length, Option, Some, None}

-- at most 64 columns in a list, or results
abbrev pub few : {A : Type 0} → List A → Bool
few xs = nat_le (length xs) 64

-- the same of a list that may be left out
abbrev pub few_if : {A : Type 0} → Option (List A) → Bool
few_if None = true
few_if (Some xs) = few xs

-- at most 16 sources, of which the first stands before the joins
abbrev pub few_joins : {A : Type 0} → List A → Bool
few_joins xs = nat_le (length xs) 15
