-- Changes that take no row out leave some, where there are some.
use Rattle.std.proofs.Common.{◌≡◌, ℕ, ℤ, int_eq, if◌then◌else◌, Bool, true, false, List, [], ◌∷◌, Option, Some, None, refl, int_lt}
use Rattle.std.specs.Global.{Vec}
use Rattle.std.specs.List.{AllByRecursion}
use Rattle.tree_leaf.specs.Leaf.{Entry}
use Rattle.tree_table.specs.Rows.{payload_at, with_row, with_replaced, with_change, with_changes}
use Rattle.tree_table.specs.Runs.{Replaces}
use Rattle.tree_table.specs.declared.changing.RowChange.{RowChange}

-- there are rows
abbrev pub AreSome : List Entry → Type 0
AreSome rows = rows ≡ [] → ⊥

pub found_some : (rowid : ℤ) (rows : List Entry) → ((payload_at rowid rows ≡ None) → ⊥) → AreSome rows
found_some rowid [] there none = there refl
found_some rowid (row ∷ rows) there none = absurd cc

row_some : (row : Entry) (rows : List Entry) → AreSome (with_row row rows)
row_some row [] none = absurd cc
row_some row (first ∷ rows) none = by (int_lt row.rowid first.rowid) (int_eq row.rowid first.rowid) none
  where
    by : (less same : Bool) → (if less then row ∷ first ∷ rows else (if same then row ∷ rows else first ∷ with_row row rows)) ≡ [] → ⊥
    by true same none = absurd cc
    by false true none = absurd cc
    by false false none = absurd cc

replaced_some : (row : Entry) (rows : List Entry) → AreSome rows → AreSome (with_replaced row rows)
replaced_some row rows some = by (payload_at row.rowid rows)
  where
    by : (found : Option (List ℕ)) → AreSome (elim found [ None ↦ rows | Some payload ↦ with_row row rows ])
    by None = some
    by (Some payload) = row_some row rows

change_some : (rowid : ℤ) (payload : Option (Vec ℕ)) (rows : List Entry) → Replaces (record { rowid = rowid; payload = payload }) → AreSome rows → AreSome (with_change (record { rowid = rowid; payload = payload }) rows)
change_some rowid None rows replaces some = absurd (replaces refl)
change_some rowid (Some payload) rows replaces some = replaced_some (record { rowid = rowid; payload = payload.items }) rows some

pub changes_some : (changes : List RowChange) (rows : List Entry) → AllByRecursion Replaces changes → AreSome rows → AreSome (with_changes changes rows)
changes_some [] rows all some = some
changes_some (change ∷ changes) rows all some = changes_some changes (with_change change rows) all.1 (change_some change.rowid change.payload rows all.0 some)
