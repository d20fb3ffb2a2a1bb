-- What putting entries of several rows into an index's tree does to the tree.
use Rattle.std.specs.Prelude.{◌≡◌, ◌⊎◌, ⊤, ℕ, List, Result, MatchResult}
use Rattle.std.specs.List.{AllByRecursion}
use Rattle.sqlval.specs.declared.collation.Collation.{Collation}
use Rattle.sqlval.specs.declared.fault.Fault.{Fault}
use Rattle.sqlval.specs.declared.fault.Fault.TheVariants.{TooLong}
use Rattle.record.specs.Writing.{AreStorable}
use Rattle.pages.specs.Calls.{IsOutsideOrFull}
use Rattle.pages.specs.Map.{PageMap}
use Rattle.tree_index.specs.Calls.{BecomesEntries, Stands}
use Rattle.tree_index.specs.Entries.{Entry, AreLong, ComeInTurn, with_entries}

-- memory was short, a disk's call failed, there are as many pages as there may be, or no record can hold one of the entries
abbrev pub IsPutRefusal : List Entry → Fault → Type 0
IsPutRefusal come fault = IsOutsideOrFull fault ⊎ ((fault ≡ TooLong) × (AllByRecursion AreStorable come → ⊥))

-- Where a tree has none of these entries in their turn, it stands with them then; or the call is refused.
abbrev pub PutsCome : PageMap → PageMap → ℕ → ℕ → List Collation → List Entry → Result ⊤ Fault → Type 0
PutsCome old new size root columns come result = (entries : List Entry) (used free : List ℕ) → Stands old size root columns entries used free
    → AreLong columns come → ComeInTurn columns come entries
    → MatchResult result (λ done. BecomesEntries old new size root columns (with_entries columns come entries) used free) (IsPutRefusal come)
