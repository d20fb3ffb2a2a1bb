-- Checks that go over entries in order.
use Rattle.std.specs.Prelude.{◌≡◌, ◌+◌, ℕ, Bool, List, [], ◌∷◌, length, ⊤, Result, Ok, Err}
use Rattle.std.specs.declared.cmp.Ordering.TheVariants.{Less}
use Rattle.sqlval.specs.declared.collation.Collation.{Collation}
use Rattle.sqlval.specs.declared.fault.Fault.{Fault}
use Rattle.sqlval.specs.Faults.{IsOutside}
use Rattle.sqlval.specs.declared.value.Value.{Value}
use Rattle.tree_index.specs.Entries.{Entry, entry_cmp}
use Rattle.tree_check.specs.Exact.{Checks}
use Rattle.tree_check.specs.Marks.{AreUnmarked}

-- the entry comes after the one that was the last, where there was one
abbrev pub IsAfter : List Collation → List Value → Entry → Type 0
IsAfter columns [] entry = ⊤
IsAfter columns (value ∷ values) entry = entry_cmp columns (value ∷ values) entry ≡ Less

-- an entry of these columns and a rowid, which comes after the last one
abbrev pub IsNext : List Collation → List Value → Entry → Type 0
IsNext columns last entry = (length entry ≡ length columns + 1) × IsAfter columns last entry

-- each entry comes after the one before it, and then this is the last
abbrev pub Follow : List Collation → List Value → List Entry → List Value → Type 0
Follow columns last [] now = now ≡ last
Follow columns last (entry ∷ entries) now = IsNext columns last entry × Follow columns entry entries now

-- A check as `Checks` is, of something that has entries, which come after the last one that was seen. Where it passes, they follow in any one
-- that is there. A refusal for their order comes only where they don't follow.
abbrev pub ChecksOrdered : {X : Type 0} → (X → Type 0) → (X → List ℕ) → (X → List Entry) → List Collation → List Value → List Value
    → List Bool → List Bool → Result ⊤ Fault → Type 0
ChecksOrdered {X} Is pages entries columns last now old new (Ok done) =
    Checks Is pages old new (Ok tt) × ((x : X) → Is x → Follow columns last (entries x) now)
ChecksOrdered {X} Is pages entries columns last now old new (Err fault) =
    (x : X) (end : List Value) → Is x → AreUnmarked old (pages x) → Follow columns last (entries x) end → IsOutside fault
