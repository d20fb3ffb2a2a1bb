-- Entries that are put on a leaf in place, one after the other.
use Rattle.std.specs.Prelude.{◌≡◌, ◌+◌, ◌-◌, ◌<◌, ◌≤◌, ℕ, zero, List, length, slice_index_or, Option, None, Some, Result, MatchResult}
use Rattle.std.specs.declared.cmp.Ordering.TheVariants.{Greater, Less}
use Rattle.sqlval.specs.Faults.{IsOutside}
use Rattle.sqlval.specs.PageSizes.{IsPageSize}
use Rattle.sqlval.specs.declared.collation.Collation.{Collation}
use Rattle.sqlval.specs.declared.fault.Fault.{Fault}
use Rattle.sqlval.specs.declared.value.Value.{Value}
use Rattle.pages.specs.Map.{PageMap, AreWhole}
use Rattle.record.specs.Record.{IsRecord}
use Rattle.record.specs.Writing.{record_of}
use Rattle.tree_page.specs.Node.{IsEntryCell, Node}
use Rattle.tree_page.specs.Payload.{index_most}
use Rattle.tree_index.specs.Comparing.{HasEntries}
use Rattle.tree_index.specs.Entries.{Entry, AreEntries, AreLong, entry_cmp, with_entry}
use Rattle.tree_index.specs.Freeing.{StandsUnder}
use Rattle.tree_index.specs.Growing.{AreAlsoPut, IsPut, StandsWithin}
use Rattle.tree_index.specs.Tree.{Held, Leaf, entries_of, pages_of}

-- a key stands after the entry before a place of a page, and before the one there
abbrev pub IsBetweenAt : PageMap → ℕ → ℕ → List Collation → List Value → ℕ → Type 0
IsBetweenAt pages size number columns key place =
    (node : Node) (entries : List Held) (d : Held) → AreWhole size pages → HasEntries pages size number node entries
    → (0 < place) × (place < length entries) × (entry_cmp columns key (slice_index_or entries (place - 1) d).entry ≡ Greater)
    × (entry_cmp columns key (slice_index_or entries place d).entry ≡ Less)

-- the cell of an entry whose record lies whole in it
abbrev pub IsWholeCell : ℕ → Entry → List ℕ → Type 0
IsWholeCell usable entry cell = IsRecord (record_of entry) entry × (length (record_of entry) ≤ index_most usable)
    × IsEntryCell usable cell (record { size = length (record_of entry); bytes = record_of entry })

-- the entry stands within those of the leaf and is on it now; or nothing changed
abbrev pub IsNextPut : PageMap → PageMap → ℕ → ℕ → List Collation → Entry → Leaf → List ℕ → Option ℕ → Type 0
IsNextPut old new size number columns entry t free None = new ≡ old
IsNextPut old new size number columns entry t free (Some place) =
    StandsWithin columns entry (entries_of zero t) × IsPut old new size number zero (with_entry columns entry (entries_of zero t)) (pages_of zero t) free

-- where a tree is a leaf, an entry is put on it or not; or memory was short, or a disk's call failed
abbrev pub PutsNext : PageMap → PageMap → ℕ → ℕ → List Collation → Entry → Result (Option ℕ) Fault → Type 0
PutsNext old new size number columns entry result = (ways : ℕ) (t : Leaf) (free : List ℕ) → StandsUnder old size number ways zero t free
    → IsPageSize size → AreEntries columns (entries_of zero t) → length entry ≡ length columns + 1
    → MatchResult result (IsNextPut old new size number columns entry t free) IsOutside

-- where a tree is a leaf, so many of these entries, the first ones, are put on it; or memory was short, or a disk's call failed
abbrev pub RunsOn : PageMap → PageMap → ℕ → ℕ → List Collation → List Entry → Result ℕ Fault → Type 0
RunsOn old new size number columns given result = (ways : ℕ) (t : Leaf) (free : List ℕ) → StandsUnder old size number ways zero t free
    → IsPageSize size → AreEntries columns (entries_of zero t) → AreLong columns given
    → MatchResult result (AreAlsoPut old new size number zero columns given (entries_of zero t) (pages_of zero t) free) IsOutside
