-- How a row is put into the tree of a table.
use Rattle.std.specs.Prelude.{◌≡◌, ◌⊎◌, ℕ, ℤ, List, None, ⊤, Result, MatchResult}
use Rattle.sqlval.specs.declared.fault.Fault.{Fault}
use Rattle.sqlval.specs.declared.fault.Fault.TheVariants.{Unique}
use Rattle.tree_leaf.specs.Leaf.{Entry}
use Rattle.pages.specs.Calls.{IsOutsideOrFull}
use Rattle.pages.specs.Map.{PageMap}
use Rattle.tree_table.specs.Calls.{BecomesRows, Stands}
use Rattle.tree_table.specs.Rows.{payload_at, with_row, without_row}

-- A row is put among the rows of a tree, in its place by rowid; or memory was short, a disk's call failed, there are as many pages as there
-- may be, or one of the rows has its rowid.
abbrev pub PutsAmong : PageMap → PageMap → ℕ → ℕ → Entry → Result ⊤ Fault → Type 0
PutsAmong old new size root row result = (rows : List Entry) (used free : List ℕ) → Stands old size root rows used free
    → MatchResult result (λ done. (payload_at row.rowid rows ≡ None) × BecomesRows old new size root (with_row row rows) used free)
    (λ fault. IsOutsideOrFull fault ⊎ ((fault ≡ Unique) × (payload_at row.rowid rows ≡ None → ⊥)))

-- A row of a tree goes, and another comes, in its place by rowid; or memory was short, a disk's call failed, there are as many pages as
-- there may be, or one of the other rows has its rowid.
abbrev pub MovesRow : PageMap → PageMap → ℕ → ℕ → ℤ → Entry → Result ⊤ Fault → Type 0
MovesRow old new size root gone row result = (rows : List Entry) (used free : List ℕ) → Stands old size root rows used free
    → (payload_at gone rows ≡ None → ⊥)
    → MatchResult result (λ done. (payload_at row.rowid (without_row gone rows) ≡ None) × BecomesRows old new size root (with_row row (without_row gone rows)) used free)
    (λ fault. IsOutsideOrFull fault ⊎ ((fault ≡ Unique) × (payload_at row.rowid (without_row gone rows) ≡ None → ⊥)))
