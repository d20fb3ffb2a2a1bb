-- Lists of frames by rising number.
use Rattle.std.specs.Prelude.{◌<◌, ◌≤◌, ℕ, List, [], length, map, Vec, slice_index, slice_index_or}
use Rattle.std.specs.declared.alloc.Global.{Global}

-- later elements are no less
abbrev pub IsRising : List ℕ → Type 0
IsRising xs = (i j : ℕ) → i ≤ j → j < length xs → slice_index xs i ≤ slice_index xs j

-- none of these frames is greater
abbrev pub AreUpTo : ℕ → List ℕ → Type 0
AreUpTo frame frames = (k : ℕ) → k < length frames → slice_index frames k ≤ frame

-- the list of a place, where it is there
abbrev pub list_at : List (Vec ℕ Global) → ℕ → List ℕ
list_at lists place = slice_index_or (map (λ (v : Vec ℕ Global). v.items) lists) place []

-- each of these lists rises
abbrev pub AreRising : List (Vec ℕ Global) → Type 0
AreRising lists = (place : ℕ) → IsRising (list_at lists place)
