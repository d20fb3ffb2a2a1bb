-- What the calls do.
use Rattle.std.specs.Prelude.{◌≡◌, ◌⊎◌, ℕ, Bool, true, false, IsTrue, List, map, ⊤, Result, MatchResult}
use Rattle.sqlval.specs.Faults.{IsOutside}
use Rattle.sqlval.specs.declared.fault.Damage.TheVariants as Damage
use Rattle.sqlval.specs.declared.fault.Fault.{Fault}
use Rattle.sqlval.specs.declared.fault.Fault.TheVariants.{Damaged}
use Rattle.pages.specs.Map.{PageMap, AreWhole}
use Rattle.query_names.specs.Keys.{has_clash}
use Rattle.query_names.specs.declared.queries.BoundSource.{BoundSource}
use Rattle.row_scan.specs.Rows.{TableRow}
use Rattle.row_scan.specs.Trees.{HasRows}
use Rattle.tree_index.specs.Entries.{Entry}
use Rattle.tree_index.specs.Tree.{IsIndexTree}
use Rattle.index_entries.specs.Entries.{collations, entries_of_rows}
use Rattle.index_entries.specs.Keeping.{columns_in}
use Rattle.catalog.specs.Database.{Index}
use Rattle.catalog.specs.declared.tables.IndexColumn.{IndexColumn}

-- Of a tree of rows these are the entries, in order; or memory was short, or a disk's call failed.
abbrev pub SortsEntries : PageMap → ℕ → BoundSource → List IndexColumn → Result (List Entry) Fault → Type 0
SortsEntries pages size table columns result = (rows : List TableRow) → AreWhole size pages → HasRows pages size table.root table.shape rows
    → MatchResult result (λ found. found ≡ entries_of_rows (columns_in columns) rows) IsOutside

-- Of the entries of rows, in the order of a UNIQUE index of these columns, the answer is whether two of the rows have one key without NULL.
abbrev pub TellsClash : List IndexColumn → List Entry → Bool → Type 0
TellsClash columns entries answer = (i : Index) (rows : List TableRow) → i.is_unique ≡ true → i.columns ≡ columns_in columns
    → entries ≡ entries_of_rows (columns_in columns) rows → answer ≡ has_clash i rows

-- Where a UNIQUE index of these columns has the entries of rows, and its keys are seen to be apart, no two of the rows have one key without NULL.
-- Or memory was short, or a disk's call failed.
abbrev pub SeesKeysApart : PageMap → ℕ → ℕ → List IndexColumn → Result Bool Fault → Type 0
SeesKeysApart pages size root columns result = (i : Index) (rows : List TableRow) (used : List ℕ) → i.is_unique ≡ true → i.columns ≡ columns_in columns
    → AreWhole size pages → IsIndexTree pages size root (collations (columns_in columns)) (entries_of_rows (columns_in columns) rows) used
    → MatchResult result (λ apart. IsTrue apart → has_clash i rows ≡ false) IsOutside

-- ---- entries that are compared

-- the answer is true exactly where this holds
pub record Tells (answer : Bool) (A : Type 0) : Type 0 where
  pub yes : IsTrue answer → A
  pub no : A → IsTrue answer

-- The entries that there are are those that there should be. Or they aren't, and the call says so; or memory was short, or a disk's call
-- failed.
abbrev pub AreThose : ℕ → List Entry → List Entry → Result ⊤ Fault → Type 0
AreThose root there should result = MatchResult result (λ done. there ≡ should)
    (λ fault. IsOutside fault ⊎ ((fault ≡ Damaged Damage.Index root) × (there ≡ should → ⊥)))

-- the entries of the index's tree under the root were compared with those of the table's rows
abbrev pub ChecksEntries : PageMap → ℕ → ℕ → BoundSource → List IndexColumn → Result ⊤ Fault → Type 0
ChecksEntries pages size root table columns result = (there : List Entry) (used : List ℕ) (rows : List TableRow) → AreWhole size pages
    → IsIndexTree pages size root (map (λ column. column.collation) columns) there used → HasRows pages size table.root table.shape rows
    → AreThose root there (entries_of_rows (columns_in columns) rows) result
