-- How the entries of an index's tree are found among those of its table's rows.
use Rattle.std.specs.Prelude.{◌≡◌, ◌<◌, ◌≤◌, ◌⊎◌, ⊤, ℕ, Bool, true, List, [], ◌∷◌, length, map, slice_index_or, Result, MatchResult}
use Rattle.std.specs.List.{AllByRecursion}
use Rattle.sqlval.specs.Faults.{IsOutside}
use Rattle.sqlval.specs.Lists.{is_rising}
use Rattle.sqlval.specs.Order.{order}
use Rattle.sqlval.specs.declared.collation.Collation.{Collation}
use Rattle.sqlval.specs.declared.collation.Collation.TheVariants.{Binary}
use Rattle.sqlval.specs.declared.fault.Damage.TheVariants as Damage
use Rattle.sqlval.specs.declared.fault.Fault.{Fault}
use Rattle.sqlval.specs.declared.fault.Fault.TheVariants.{Damaged}
use Rattle.sqlval.specs.declared.value.Value.{Value}
use Rattle.pages.specs.Map.{PageMap, AreWhole}
use Rattle.query_terms.specs.Values.{Row}
use Rattle.tree_index.specs.Entries.{Entry}
use Rattle.tree_index.specs.Tree.{IsIndexTree}
use Rattle.catalog.specs.declared.tables.IndexColumn.{IndexColumn}
use Rattle.index_build.specs.Ranking.{indexed_of}

-- ---- places

-- the rows stand by rising rowid
abbrev pub are_by_rowid : List Row → Bool
are_by_rowid rows = is_rising (λ r s. order Binary r.rowid s.rowid) rows

-- the row at a place has this rowid
abbrev pub HasRowidAt : List Row → Value → ℕ → Type 0
HasRowidAt rows rowid place = (place < length rows) × ((d : Row) → (slice_index_or rows place d).rowid ≡ rowid)

-- where the rows stand by rising rowid, a row of this rowid has this place
abbrev pub IsRowPlace : List Row → Value → ℕ → Type 0
IsRowPlace rows rowid place = (there : ℕ) → are_by_rowid rows ≡ true → HasRowidAt rows rowid there → there ≡ place

-- ---- entries

-- the item is one of these
abbrev pub IsIn : {A : Type 0} → A → List A → Type 0
IsIn x [] = ⊥
IsIn x (y ∷ ys) = (x ≡ y) ⊎ IsIn x ys

-- the entry is that of one of the rows
abbrev pub IsRowsEntry : List IndexColumn → List Row → Entry → Type 0
IsRowsEntry columns rows entry = IsIn entry (map (indexed_of columns) rows)

-- each of the entries is that of a row, and there are at most so many
abbrev pub AreFew : List IndexColumn → List Row → ℕ → List Entry → Type 0
AreFew columns rows most entries = AllByRecursion (IsRowsEntry columns rows) entries × (length entries ≤ most)

-- each of the entries is that of a row, and there are as many as rows
abbrev pub AreOfRows : List IndexColumn → List Row → List Entry → Type 0
AreOfRows columns rows entries = AllByRecursion (IsRowsEntry columns rows) entries × (length entries ≡ length rows)

-- This is so; or it isn't, and the call says so; or memory was short, or a disk's call failed.
abbrev pub SaysWhether : ℕ → Type 0 → Result ⊤ Fault → Type 0
SaysWhether root A result = MatchResult result (λ done. A) (λ fault. IsOutside fault ⊎ ((fault ≡ Damaged Damage.Index root) × (A → ⊥)))

-- the entries of the index's tree under the root were compared with those of rows by rising rowid
abbrev pub ComparesEntries : PageMap → ℕ → ℕ → List IndexColumn → List Collation → List Row → Result ⊤ Fault → Type 0
ComparesEntries pages size root columns collations rows result = (there : List Entry) (used : List ℕ) → are_by_rowid rows ≡ true → AreWhole size pages
    → IsIndexTree pages size root collations there used → SaysWhether root (AreOfRows columns rows there) result
