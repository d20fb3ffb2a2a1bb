-- Trees of several indexes side by side, whose entries become those of other rows (Database File Format, "Representation Of SQL Indices").
use Rattle.std.specs.Prelude.{◌≡◌, ◌⊎◌, ◌≤◌, ⊤, ℕ, Bool, true, false, ◌&&◌, List, [], ◌∷◌, ◌++◌, length, Result, MatchResult}
use Rattle.std.specs.List.{AllByRecursion, list_any}
use Rattle.sqlval.specs.Faults.{IsOutside}
use Rattle.sqlval.specs.PageSizes.{IsPageSize}
use Rattle.sqlval.specs.declared.fault.Fault.{Fault}
use Rattle.sqlval.specs.declared.fault.Fault.TheVariants.{TooLong, Unique}
use Rattle.record.specs.Writing.{AreStorable}
use Rattle.pages.specs.Calls.{IsOutsideOrFull}
use Rattle.pages.specs.Map.{PageMap}
use Rattle.freelist.specs.Calls.{KeepsHeader}
use Rattle.tree_page.specs.Cells.{Pairwise}
use Rattle.db_layout.specs.Layout.{AreShared, Owner}
use Rattle.catalog.specs.declared.tables.Index.{Index}
use Rattle.row_scan.specs.Rows.{TableRow}
use Rattle.tree_index.specs.Calls.{BecomesEntries, Stands}
use Rattle.index_entries.specs.Alone.{clashes}
use Rattle.index_entries.specs.Entries.{AreApart, Columns, collations, entries_of_rows, indexed}
use Rattle.index_entries.specs.Keeping.{IsAddRefusal}
use Rattle.index_entries.specs.Replacing.{rowids}
use Rattle.db_layout.specs.Trees.{IsEntriesTree, columns_of}

-- a record can hold the entry of each row in an index of these columns
abbrev pub CanBeIndexed : Columns → List TableRow → Type 0
CanBeIndexed columns rows = AllByRecursion (λ row. AreStorable (indexed columns row)) rows

-- and so in each of these indexes
abbrev pub AreEntriesStorable : List Index → List TableRow → Type 0
AreEntriesStorable indexes rows = AllByRecursion (λ index. CanBeIndexed (columns_of index) rows) indexes

-- after the schema table's tree and some others stand those of the indexes, each with the entries of the rows, and then others
pub record HaveEntries (map : PageMap) (size : ℕ) (schema : Owner) (before : List Owner) (indexes : List Index) (rows : List TableRow)
    (after : List Owner) : Type 0 where
  pub mine : List Owner
  pub each : Pairwise (IsEntriesTree rows) indexes mine
  pub free : List ℕ
  pub shared : AreShared map size (schema ∷ before ++ (mine ++ after)) free

-- so they stand now
pub record HaveNow (old new : PageMap) (size : ℕ) (schema : Owner) (before : List Owner) (indexes : List Index) (rows : List TableRow)
    (after : List Owner) : Type 0 where
  pub have : HaveEntries new size schema before indexes rows after
  pub header : KeepsHeader old new
  pub longer : length old ≤ length new

-- Where the indexes' trees have the entries of some rows, they have those of others then, or the call is refused.
abbrev pub TurnIndexes : PageMap → PageMap → ℕ → List Index → List TableRow → List TableRow → (Fault → Type 0) → Result ⊤ Fault → Type 0
TurnIndexes old new size indexes from to Why result = (schema : Owner) (before after : List Owner) → IsPageSize size → schema.root ≡ 1
    → HaveEntries old size schema before indexes from after → MatchResult result (λ done. HaveNow old new size schema before indexes to after) Why

-- Rows go from the table, and their entries from each index.
abbrev pub TakesFromIndexes : PageMap → PageMap → ℕ → List Index → List TableRow → Result ⊤ Fault → Type 0
TakesFromIndexes old new size indexes gone result = (rows : List TableRow) → AreApart (rows ++ gone) → TurnIndexes old new size indexes (rows ++ gone) rows IsOutsideOrFull result

-- Rows take the places of those of their rowids, and their entries those of the others' in each index.
abbrev pub ReplacesInIndexes : PageMap → PageMap → ℕ → List Index → List TableRow → List TableRow → Result ⊤ Fault → Type 0
ReplacesInIndexes old new size indexes gone come result = (rows : List TableRow) → AreApart (rows ++ gone) → rowids gone ≡ rowids come
    → TurnIndexes old new size indexes (rows ++ gone) (rows ++ come) (λ fault. IsOutsideOrFull fault ⊎ ((fault ≡ TooLong) × (AreEntriesStorable indexes come → ⊥))) result

-- All rows go from the table, and all entries from each index.
abbrev pub ClearsIndexes : PageMap → PageMap → ℕ → List Index → Result ⊤ Fault → Type 0
ClearsIndexes old new size indexes result = (rows : List TableRow) → TurnIndexes old new size indexes rows [] IsOutsideOrFull result

-- ---- one row

-- the index is UNIQUE, and one of the others has the row's key
abbrev pub clashes_at : Index → TableRow → List TableRow → Bool
clashes_at index row others = index.is_unique && list_any (clashes (columns_of index) row) others

-- so it is in one of these indexes
abbrev pub clashes_among : List Index → TableRow → List TableRow → Bool
clashes_among indexes row others = list_any (λ index. clashes_at index row others) indexes

-- Where an index's tree has the entries of some rows, it has those of others then, of which one row is alone beside these. Or the call is
-- refused: memory or pages are short, or a disk's call failed; no record can hold the row's entry; or the row clashes.
abbrev pub TurnsAlone : PageMap → PageMap → ℕ → Index → List TableRow → List TableRow → TableRow → List TableRow → Result ⊤ Fault → Type 0
TurnsAlone old new size index from to row others result = (used free : List ℕ)
    → Stands old size index.root (collations (columns_of index)) (entries_of_rows (columns_of index) from) used free
    → MatchResult result (λ done. (clashes_at index row others ≡ false)
    × BecomesEntries old new size index.root (collations (columns_of index)) (entries_of_rows (columns_of index) to) used free)
    (λ fault. IsAddRefusal (columns_of index) (row ∷ []) fault ⊎ ((fault ≡ Unique) × (clashes_at index row others ≡ true)))

-- Why the trees of several indexes don't have the row's entry: memory or pages are short, or a disk's call failed; the row clashes; or no
-- record can hold an entry of it.
abbrev pub IsRowRefused : List Index → TableRow → List TableRow → Fault → Type 0
IsRowRefused indexes row others fault = IsOutsideOrFull fault
    ⊎ (((fault ≡ Unique) × (clashes_among indexes row others ≡ true)) ⊎ ((fault ≡ TooLong) × (AreEntriesStorable indexes (row ∷ []) → ⊥)))

-- the indexes' trees have the entries of the rows, of which one is alone beside the others
pub record HaveAlone (old new : PageMap) (size : ℕ) (schema : Owner) (before : List Owner) (indexes : List Index) (row : TableRow)
    (others rows : List TableRow) (after : List Owner) : Type 0 where
  pub alone : clashes_among indexes row others ≡ false
  pub now : HaveNow old new size schema before indexes rows after

-- Where the indexes' trees have the entries of some rows, they have those of others then, of which one row is alone beside these; or the
-- call is refused.
abbrev pub TurnAlone : PageMap → PageMap → ℕ → List Index → List TableRow → List TableRow → TableRow → List TableRow → Result ⊤ Fault → Type 0
TurnAlone old new size indexes from to row others result = (schema : Owner) (before after : List Owner) → IsPageSize size → schema.root ≡ 1
    → HaveEntries old size schema before indexes from after
    → MatchResult result (λ done. HaveAlone old new size schema before indexes row others to after) (IsRowRefused indexes row others)

-- A row of another rowid comes to the table, and its entry to the index.
abbrev pub AddsRowToIndex : PageMap → PageMap → ℕ → Index → TableRow → Result ⊤ Fault → Type 0
AddsRowToIndex old new size index row result = (rows : List TableRow) → AreApart (rows ++ row ∷ [])
    → TurnsAlone old new size index rows (rows ++ row ∷ []) row rows result

-- and so to each index
abbrev pub AddsRowToIndexes : PageMap → PageMap → ℕ → List Index → TableRow → Result ⊤ Fault → Type 0
AddsRowToIndexes old new size indexes row result = (rows : List TableRow) → AreApart (rows ++ row ∷ [])
    → TurnAlone old new size indexes rows (rows ++ row ∷ []) row rows result

-- A row takes the place of one of its rowid, and its entry that of the other's in the index.
abbrev pub ReplacesRowInIndex : PageMap → PageMap → ℕ → Index → TableRow → TableRow → Result ⊤ Fault → Type 0
ReplacesRowInIndex old new size index gone come result = (before after : List TableRow) → AreApart (before ++ gone ∷ after) → gone.0 ≡ come.0
    → TurnsAlone old new size index (before ++ gone ∷ after) (before ++ come ∷ after) come (before ++ after) result

-- and so in each index
abbrev pub ReplacesRowInIndexes : PageMap → PageMap → ℕ → List Index → TableRow → TableRow → Result ⊤ Fault → Type 0
ReplacesRowInIndexes old new size indexes gone come result = (before after : List TableRow) → AreApart (before ++ gone ∷ after) → gone.0 ≡ come.0
    → TurnAlone old new size indexes (before ++ gone ∷ after) (before ++ come ∷ after) come (before ++ after) result

-- A row goes from the table and another comes, and the entry of the one goes from each index and that of the other comes.
abbrev pub MovesRowInIndexes : PageMap → PageMap → ℕ → List Index → TableRow → TableRow → Result ⊤ Fault → Type 0
MovesRowInIndexes old new size indexes gone come result = (rows : List TableRow) → AreApart (rows ++ gone ∷ []) → AreApart (rows ++ come ∷ [])
    → TurnAlone old new size indexes (rows ++ gone ∷ []) (rows ++ come ∷ []) come rows result

-- ---- trees that are given back

-- These trees share the pages with the freelist, and of the others all pages are free.
pub record AreLeft (old new : PageMap) (size : ℕ) (owners : List Owner) : Type 0 where
  pub free : List ℕ
  pub shared : AreShared new size owners free
  pub header : KeepsHeader old new
  pub same : length new ≡ length old

-- Where the indexes' trees have the entries of some rows, they are given back; or memory was short, or a disk's call failed.
abbrev pub FreesIndexes : PageMap → PageMap → ℕ → List Index → Result ⊤ Fault → Type 0
FreesIndexes old new size indexes result = (schema : Owner) (before after : List Owner) (rows : List TableRow) → IsPageSize size → schema.root ≡ 1
    → HaveEntries old size schema before indexes rows after → MatchResult result (λ done. AreLeft old new size (schema ∷ before ++ after)) IsOutside
