-- Loops that check one thing after the other, and keep marks alone.
use Rattle.std.proofs.Common.{◌≡◌, ℕ, Bool, List, length}
use Rattle.std.specs.Prelude.{⊤, Result}
use Rattle.sqlval.specs.declared.fault.Fault.{Fault}
use Rattle.pages.specs.Calls.{Limits, Stays}
use Rattle.pages.specs.Map.{PageMap}
use Rattle.tree_check.specs.Checks.{CanMark}
use Rattle.tree_check.specs.Exact.{AreTold}
use Rattle.tree_check.proofs.Going as going

-- What a check says of the marks before and after it, on these pages.
abbrev pub Says : Type 1
Says = going.Says (List Bool)

abbrev pub marks_alone : List Bool → List Bool
marks_alone marks = marks

module _ {P K : Type 0} (below : P → K) (tells : K → Bool) (limits : K → Limits) (bytes : P → PageMap) (count : P → ℕ) (failures : P → ℕ × ℕ) where
  -- What was checked up to here: what is left decides.
  abbrev pub HasChecked : P → P → List Bool → List Bool → Says → Says → Type 0
  HasChecked = going.HasChecked below tells limits bytes count failures marks_alone

  module _ (start now : P) (before marks : List Bool) (Whole Rest : Says) (has : HasChecked start now before marks Whole Rest) where
    -- one more thing was checked
    pub goes_on : {T : Type 0} (call : Result T Fault) (next : P) (then : List Bool) (After : Says) → Stays below bytes count failures call now next → length then ≡ length marks
        → ((map : PageMap) (size : ℕ) → AreTold below tells limits bytes now map size → CanMark map size marks → (after : List Bool) (result : Result ⊤ Fault) → After map size then after result → Rest map size marks after result)
        → HasChecked start next before then Whole After
    goes_on call next then After stays same step = going.goes_on below tells limits bytes count failures marks_alone start now before marks Whole Rest has call next then After stays same step

    -- the last thing is checked, or one is refused
    pub ends : (after : List Bool) (result : Result ⊤ Fault)
        → ((map : PageMap) (size : ℕ) → AreTold below tells limits bytes now map size → CanMark map size marks → Rest map size marks after result)
        → (map : PageMap) (size : ℕ) → AreTold below tells limits bytes start map size → CanMark map size before → Whole map size before after result
    ends after result last map size told can = going.ends below tells limits bytes count failures marks_alone start now before marks Whole Rest has after result last map size told can
