-- A new index of a table's rows (Database File Format, "Representation Of SQL Indices").
use Rattle.std.specs.Prelude.{◌≡◌, ◌⊎◌, ℕ, Bool, true, false, List, Result, MatchResult}
use Rattle.sqlval.specs.Faults.{IsOutside}
use Rattle.sqlval.specs.PageSizes.{IsPageSize}
use Rattle.sqlval.specs.declared.fault.Fault.{Fault}
use Rattle.sqlval.specs.declared.fault.Fault.TheVariants.{Unique}
use Rattle.pages.specs.Map.{PageMap}
use Rattle.freelist.specs.Calls.{AreFree}
use Rattle.query_names.specs.Keys.{has_clash}
use Rattle.query_names.specs.declared.queries.BoundSource.{BoundSource}
use Rattle.row_scan.specs.Rows.{TableRow}
use Rattle.row_scan.specs.Trees.{HasRows}
use Rattle.tree_index.specs.Filling.{IsFilled, IsFillRefusal}
use Rattle.index_entries.specs.Entries.{Columns, collations, entries_of_rows}
use Rattle.index_entries.specs.Keeping.{columns_in}
use Rattle.catalog.specs.Database.{Index}
use Rattle.catalog.specs.declared.tables.IndexColumn.{IndexColumn}

-- Of a table's tree that holds rows, and where these pages are free, a tree is made that has exactly the entries of the rows; or it is refused
-- as a tree of these entries is.
abbrev pub MakesIndex : PageMap → PageMap → ℕ → BoundSource → List IndexColumn → Result ℕ Fault → Type 0
MakesIndex old new size table columns result = (rows : List TableRow) (free : List ℕ) → AreFree old size free → IsPageSize size
    → HasRows old size table.root table.shape rows
    → MatchResult result (IsFilled old new size (collations (columns_in columns)) (entries_of_rows (columns_in columns) rows) free)
    (IsFillRefusal (entries_of_rows (columns_in columns) rows))

-- Where two rows clash, no page changes, and that is said, or memory was short, or a disk's call failed. Else the tree is made, or refused, as
-- that of any index.
abbrev pub IsMadeApart : PageMap → PageMap → ℕ → Columns → List TableRow → List ℕ → Result ℕ Fault → Bool → Type 0
IsMadeApart old new size columns rows free result true = (new ≡ old) × MatchResult result (λ root. ⊥) (λ fault. IsOutside fault ⊎ (fault ≡ Unique))
IsMadeApart old new size columns rows free result false =
    MatchResult result (IsFilled old new size (collations columns) (entries_of_rows columns rows) free) (IsFillRefusal (entries_of_rows columns rows))

-- Of a table's tree that holds rows, and where these pages are free, the tree of a UNIQUE index of these columns is made of the entries of the
-- rows, unless two of the rows have one key without NULL.
abbrev pub MakesUniqueIndex : PageMap → PageMap → ℕ → BoundSource → List IndexColumn → Result ℕ Fault → Type 0
MakesUniqueIndex old new size table columns result = (i : Index) (rows : List TableRow) (free : List ℕ) → i.is_unique ≡ true → i.columns ≡ columns_in columns
    → AreFree old size free → IsPageSize size → HasRows old size table.root table.shape rows
    → IsMadeApart old new size (columns_in columns) rows free result (has_clash i rows)
