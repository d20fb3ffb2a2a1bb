-- Which triggers are needed, by their places, and which of them are still to be looked at (SQL As Understood By SQLite, "CREATE TRIGGER").
use Rattle.std.specs.Prelude.{◌≡◌, ◌⊎◌, ◌≤◌, ◌+◌, ◌*◌, ℕ, Bool, true, false, List, [], ◌∷◌, length, Some, slice_get}
use Rattle.std.specs.List.{Contains}
use Rattle.catalog.specs.declared.tables.Trigger.{Trigger}
use Rattle.trigger_bind.specs.declared.needs.Needs.{Needs}

-- the trigger at the place is needed
abbrev pub IsNeeded : List Bool → ℕ → Type 0
IsNeeded needed i = slice_get needed i ≡ Some true

-- how many aren't needed
abbrev pub unneeded : List Bool → ℕ
unneeded [] = 0
unneeded (true ∷ bs) = unneeded bs
unneeded (false ∷ bs) = unneeded bs + 1

-- how much there may still be to do
abbrev pub cost : Needs → ℕ
cost n = unneeded n.needed.items + length n.queue.items

-- The places of a kind are noted, and no others: those that are new are in the queue.
pub record Notes (Is : ℕ → Type 0) (old new : Needs) : Type 0 where
  pub same : length new.needed.items ≡ length old.needed.items
  pub keeps : (i : ℕ) → IsNeeded old.needed.items i → IsNeeded new.needed.items i
  pub noted : (i : ℕ) → IsNeeded new.needed.items i → IsNeeded old.needed.items i ⊎ (Contains new.queue.items i × Is i)
  pub all : (i : ℕ) → Is i → IsNeeded new.needed.items i
  pub stays : (i : ℕ) → Contains old.queue.items i → Contains new.queue.items i
  pub fresh : (i : ℕ) → Contains new.queue.items i → Contains old.queue.items i ⊎ IsNeeded new.needed.items i
  pub cost_is : cost new ≤ cost old

-- this place alone is noted
abbrev pub NotesPlace : ℕ → Needs → Needs → Type 0
NotesPlace place old new = Notes (λ i. i ≡ place) old new

-- the place of one of these triggers for which the test is true
abbrev pub IsPlaceOf : List Trigger → (Trigger → Bool) → ℕ → Type 0
IsPlaceOf triggers test i = (t : Trigger) × (slice_get triggers i ≡ Some t) × (test t ≡ true)

-- the places of the triggers are noted for which the test is true
abbrev pub NotesThose : List Trigger → (Trigger → Bool) → Needs → Needs → Type 0
NotesThose triggers test old new = Notes (IsPlaceOf triggers test) old new
