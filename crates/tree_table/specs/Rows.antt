-- Rows by rising rowid, as a map.
use Rattle.std.specs.Prelude.{◌≡◌, ℕ, ℤ, ◌<ℤ◌, List, [], ◌∷◌, ◌++◌, Option, Some, None, int_lt, filter, not, if◌then◌else◌}
use Rattle.std.specs.List.{AllByRecursion}
use Rattle.std.specs.Ordering.{int_eq}
use Rattle.tree_leaf.specs.Leaf.{Entry}
use Rattle.tree_table.specs.declared.changing.RowChange.{RowChange}

-- the payload of the row of this rowid
abbrev pub payload_at : ℤ → List Entry → Option (List ℕ)
payload_at rowid [] = None
payload_at rowid (row ∷ rows) = if int_eq row.rowid rowid then Some row.payload else payload_at rowid rows

-- the rows with this one, in its place by rowid, or in place of the one that has its rowid
abbrev pub with_row : Entry → List Entry → List Entry
with_row row [] = row ∷ []
with_row row (first ∷ rows) =
    if int_lt row.rowid first.rowid then row ∷ first ∷ rows
    else (if int_eq row.rowid first.rowid then row ∷ rows else first ∷ with_row row rows)

-- the rows without the one of this rowid
abbrev pub without_row : ℤ → List Entry → List Entry
without_row rowid [] = []
without_row rowid (row ∷ rows) = if int_eq row.rowid rowid then rows else row ∷ without_row rowid rows

-- the rows with this one in place of the one of its rowid, if there is one
abbrev pub with_replaced : Entry → List Entry → List Entry
with_replaced row rows = elim (payload_at row.rowid rows) [ None ↦ rows | Some payload ↦ with_row row rows ]

-- the rows with another payload for the row of a rowid, or without it; where there is none, the rows as they are
abbrev pub with_change : RowChange → List Entry → List Entry
with_change change rows = elim change.payload [
  | None ↦ without_row change.rowid rows
  | Some payload ↦ with_replaced (record { rowid = change.rowid; payload = payload.items }) rows
]

-- the rows after these changes, one after another
abbrev pub with_changes : List RowChange → List Entry → List Entry
with_changes [] rows = rows
with_changes (change ∷ changes) rows = with_changes changes (with_change change rows)

-- A change of rows from a rowid up to another: it leaves rows as they are that are less than the first, or greater than the second.
pub record IsLocal (from upto : ℤ) (edit : List Entry → List Entry) : Type 0 where
  pub within : (left mid right : List Entry) → AllByRecursion (λ row. row.rowid <ℤ from) left → AllByRecursion (λ row. upto <ℤ row.rowid) right
      → edit (left ++ (mid ++ right)) ≡ left ++ (edit mid ++ right)

-- the greatest rowid
abbrev pub last_rowid : List Entry → Option ℤ
last_rowid [] = None
last_rowid (row ∷ []) = Some row.rowid
last_rowid (row ∷ next ∷ rows) = last_rowid (next ∷ rows)

-- the rows from a rowid on, or none
abbrev pub rows_from : Option ℤ → List Entry → List Entry
rows_from None rows = []
rows_from (Some rowid) rows = filter (λ row. not (int_lt row.rowid rowid)) rows
