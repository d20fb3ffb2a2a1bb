-- Entries that are taken off a leaf in place, one after the other.
use Rattle.std.specs.Prelude.{◌≡◌, ◌+◌, ◌-◌, ◌<◌, ℕ, zero, true, List, [], length, slice_index_or, Option, None, Some, Result, MatchResult}
use Rattle.std.specs.declared.cmp.Ordering.{Ordering}
use Rattle.std.specs.declared.cmp.Ordering.TheVariants.{Greater, Less}
use Rattle.sqlval.specs.Faults.{IsOutside}
use Rattle.sqlval.specs.PageSizes.{IsPageSize}
use Rattle.sqlval.specs.declared.collation.Collation.{Collation}
use Rattle.sqlval.specs.declared.fault.Fault.{Fault}
use Rattle.sqlval.specs.declared.value.Value.{Value}
use Rattle.pages.specs.Map.{PageMap, AreWhole}
use Rattle.tree_page.specs.Node.{Node}
use Rattle.tree_index.specs.Comparing.{HasEntries}
use Rattle.tree_index.specs.Entries.{Entry, AreEntries, AreLong, entry_cmp, has_entry, without_entry}
use Rattle.tree_index.specs.Freeing.{StandsUnder}
use Rattle.tree_index.specs.Growing.{IsEqualAt, IsPut}
use Rattle.tree_index.specs.Removing.{IsTakenOut}
use Rattle.tree_index.specs.Tree.{Held, Leaf, entries_of, pages_of}
use Rattle.tree_index.specs.declared.removing.Loss.TheVariants.{Done}
use Rattle.tree_index.specs.declared.taking.Landing.{Landing}
use Rattle.tree_index.specs.declared.taking.Landing.TheVariants.{There, Gap}

-- a key compares so with the entry at a place of a page, which goes on in no overflow pages
abbrev pub ComparesWhole : PageMap → ℕ → ℕ → ℕ → List Collation → List Value → Ordering → Type 0
ComparesWhole pages size number place columns key order =
    (node : Node) (entries : List Held) (d : Held) → AreWhole size pages → HasEntries pages size number node entries
    → (place < length entries) × (order ≡ entry_cmp columns key (slice_index_or entries place d).entry)
    × ((slice_index_or entries place d).pages ≡ [])

-- the entry at a place of a page equals the key, and goes on in no overflow pages
abbrev pub IsWholeAt : PageMap → ℕ → ℕ → List Collation → List Value → ℕ → Type 0
IsWholeAt pages size number columns key place =
    (node : Node) (entries : List Held) → AreWhole size pages → HasEntries pages size number node entries
    → IsEqualAt columns key entries place × ((d : Held) → (slice_index_or entries place d).pages ≡ [])

-- leaps came to an entry that equals the key, whole in its cell; or to a place, before whose entry the key stands, and after the one before it, where
-- that is known
abbrev pub Leaps : PageMap → ℕ → ℕ → List Collation → List Value → Landing → Type 0
Leaps pages size number columns key (There place) = IsWholeAt pages size number columns key place
Leaps pages size number columns key (Gap place is_after is_before) =
    (is_after ≡ true → (0 < place) × ComparesWhole pages size number (place - 1) columns key Greater)
    × (is_before ≡ true → ComparesWhole pages size number place columns key Less)

-- the entry was on the leaf and is off it now; or nothing changed
abbrev pub IsNextTaken : PageMap → PageMap → ℕ → ℕ → List Collation → Entry → Leaf → List ℕ → Option ℕ → Type 0
IsNextTaken old new size number columns entry t free None = new ≡ old
IsNextTaken old new size number columns entry t free (Some place) =
    (has_entry columns entry (entries_of zero t) ≡ true)
    × IsPut old new size number zero (without_entry columns entry (entries_of zero t)) (pages_of zero t) free

-- where a tree is a leaf, an entry is taken off it or not; or memory was short, or a disk's call failed
abbrev pub TakesNext : PageMap → PageMap → ℕ → ℕ → List Collation → Entry → Result (Option ℕ) Fault → Type 0
TakesNext old new size number columns entry result = (ways : ℕ) (t : Leaf) (free : List ℕ) → StandsUnder old size number ways zero t free
    → IsPageSize size → AreEntries columns (entries_of zero t) → length entry ≡ length columns + 1
    → MatchResult result (IsNextTaken old new size number columns entry t free) IsOutside

-- where a tree is a leaf, so many of these entries, the first ones, are taken off it; or memory was short, or a disk's call failed
abbrev pub RunsOff : PageMap → PageMap → ℕ → ℕ → List Collation → List Entry → Result ℕ Fault → Type 0
RunsOff old new size number columns given result = (ways : ℕ) (t : Leaf) (free : List ℕ) → StandsUnder old size number ways zero t free
    → IsPageSize size → AreEntries columns (entries_of zero t) → AreLong columns given
    → MatchResult result (λ count. IsTakenOut old new size number zero columns given (entries_of zero t) t free (Done count)) IsOutside
