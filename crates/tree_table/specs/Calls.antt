-- What calls do with a table's tree: it is a map from rowids to payloads.
use Rattle.std.specs.Prelude.{◌≡◌, ◌⊎◌, ◌≤◌, ◌+◌, ℕ, ℤ, Bool, true, false, List, [], ◌∷◌, ◌++◌, Option, Some, None, Result, MatchResult, ⊤}
use Rattle.sqlval.specs.Faults.{IsOutside}
use Rattle.sqlval.specs.PageSizes.{IsPageSize}
use Rattle.sqlval.specs.declared.fault.Fault.{Fault}
use Rattle.tree_leaf.specs.Leaf.{Entry}
use Rattle.pages.specs.Calls.{IsOutsideOrFull}
use Rattle.pages.specs.Counting.{occurs, Moves}
use Rattle.pages.specs.Map.{PageMap, AreWhole}
use Rattle.freelist.specs.Calls.{AreFree, KeepsHeader}
use Rattle.tree_table.specs.Rows.{payload_at, with_row, without_row, with_changes, last_rowid}
use Rattle.tree_table.specs.Tree.{IsTableTree}
use Rattle.tree_table.specs.declared.changing.RowChange.{RowChange}

-- a tree of these rows, and free pages beside it, none of them in it; page 1 is at most its root
pub record Stands (map : PageMap) (size root : ℕ) (rows : List Entry) (used free : List ℕ) : Type 0 where
  pub tree : IsTableTree map size root rows used
  pub free_are : AreFree map size free
  pub apart : (n : ℕ) → occurs n used + occurs n free ≤ 1
  pub first : (root ≡ 1) ⊎ (occurs 1 used ≡ 0)
  pub sized : IsPageSize size

-- The tree under the same root has these rows now. It and the freelist share the pages that they had and those that were added.
pub record BecomesRows (old new : PageMap) (size root : ℕ) (rows : List Entry) (used free : List ℕ) : Type 0 where
  pub now_used : List ℕ
  pub now_free : List ℕ
  pub stands : Stands new size root rows now_used now_free
  pub moves : Moves old new used free now_used now_free
  pub header : KeepsHeader old new

-- ---- reading

-- the row's payload was put behind what stood there before, or there is no such row
abbrev pub IsFound : Option (List ℕ) → List ℕ → List ℕ → Bool → Type 0
IsFound None before after found = (found ≡ false) × (after ≡ before)
IsFound (Some payload) before after found = (found ≡ true) × (after ≡ before ++ payload)

-- the payload of a row is found in a tree, or that there is none; or memory was short, or a disk's call failed
abbrev pub FindsRow : PageMap → ℕ → ℕ → ℤ → List ℕ → List ℕ → Result Bool Fault → Type 0
FindsRow map size root rowid before after result = (rows : List Entry) (used : List ℕ) → AreWhole size map → IsTableTree map size root rows used
    → MatchResult result (IsFound (payload_at rowid rows) before after) IsOutside

-- the greatest rowid is found
abbrev pub FindsLast : PageMap → ℕ → ℕ → Result (Option ℤ) Fault → Type 0
FindsLast map size root result = (rows : List Entry) (used : List ℕ) → AreWhole size map → IsTableTree map size root rows used
    → MatchResult result (λ rowid. rowid ≡ last_rowid rows) IsOutside

-- ---- changes

-- The tree has changed rows; or nothing changed. What was looked up of the rowid is so in the second case, and so in the first.
abbrev pub IsTreeEdited : (Option (List ℕ) → Type 0) → (Option (List ℕ) → Type 0) → PageMap → PageMap → ℕ → ℕ → ℤ
    → (List Entry → List Entry) → List Entry → List ℕ → List ℕ → Bool → Type 0
IsTreeEdited Skips Acts old new size root rowid edit rows used free true =
    Acts (payload_at rowid rows) × BecomesRows old new size root (edit rows) used free
IsTreeEdited Skips Acts old new size root rowid edit rows used free false = Skips (payload_at rowid rows) × (new ≡ old)

-- a row was put in; or there is a row of its rowid, and nothing changed
abbrev pub IsInserted : PageMap → PageMap → ℕ → ℕ → Entry → List Entry → List ℕ → List ℕ → Bool → Type 0
IsInserted old new size root row =
    IsTreeEdited (λ found. (found ≡ None) → ⊥) (λ found. found ≡ None) old new size root row.rowid (with_row row)

-- Where a tree stands, a row is put into it;
-- or memory was short, a disk's call failed, or there are as many pages as there may be.
abbrev pub InsertsRow : PageMap → PageMap → ℕ → ℕ → Entry → Result Bool Fault → Type 0
InsertsRow old new size root row result = (rows : List Entry) (used free : List ℕ) → Stands old size root rows used free
    → MatchResult result (IsInserted old new size root row rows used free) IsOutsideOrFull

-- The row was taken out; without rows the tree is its root alone. Or there is none of the rowid, and nothing changed.
abbrev pub IsRemoved : PageMap → PageMap → ℕ → ℕ → ℤ → List Entry → List ℕ → List ℕ → Bool → Type 0
IsRemoved old new size root rowid rows used free true =
    ((payload_at rowid rows ≡ None) → ⊥) × ((now : BecomesRows old new size root (without_row rowid rows) used free)
    × (without_row rowid rows ≡ [] → now.now_used ≡ root ∷ []))
IsRemoved old new size root rowid rows used free false = (payload_at rowid rows ≡ None) × (new ≡ old)

-- Where a tree stands, a row is taken out of it;
-- or memory was short, a disk's call failed, or there are as many pages as there may be.
abbrev pub RemovesRow : PageMap → PageMap → ℕ → ℕ → ℤ → Result Bool Fault → Type 0
RemovesRow old new size root rowid result = (rows : List Entry) (used free : List ℕ) → Stands old size root rows used free
    → MatchResult result (IsRemoved old new size root rowid rows used free) IsOutsideOrFull

-- Where a tree stands, its rows are changed one after another;
-- or memory was short, a disk's call failed, or there are as many pages as there may be.
abbrev pub ChangesRows : PageMap → PageMap → ℕ → ℕ → List RowChange → Result ⊤ Fault → Type 0
ChangesRows old new size root changes result = (rows : List Entry) (used free : List ℕ) → Stands old size root rows used free
    → MatchResult result (λ done. BecomesRows old new size root (with_changes changes rows) used free) IsOutsideOrFull
