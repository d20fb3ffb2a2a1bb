-- Searches by an index (Query Planning, "Indices" and "Multi-Column Indices").
use Rattle.std.specs.Prelude.{◌≡◌, ◌<◌, ◌≤◌, ℕ, List, filter, length, map, Option, Result, MatchResult}
use Rattle.sqlval.specs.Faults.{IsOutside}
use Rattle.sqlval.specs.declared.fault.Fault.{Fault}
use Rattle.sqlval.specs.declared.value.Value.{Value}
use Rattle.pages.specs.Map.{PageMap, AreWhole}
use Rattle.query_terms.specs.Values.{Row}
use Rattle.query_names.specs.declared.queries.BoundSource.{BoundSource}
use Rattle.row_scan.specs.Rows.{TableRow}
use Rattle.row_scan.specs.Sources.{as_source}
use Rattle.row_scan.specs.Trees.{HasRows}
use Rattle.tree_index.specs.Tree.{IsIndexTree}
use Rattle.index_entries.specs.Entries.{collations, entries_of_rows, indexed}
use Rattle.index_entries.specs.Keeping.{columns_in}
use Rattle.catalog.specs.declared.tables.IndexColumn.{IndexColumn}
use Rattle.query_plan.specs.Keys.{has_key}
use Rattle.row_search.specs.Finding.{is_sought}
use Rattle.query_plan.specs.Ranges.{has_range}
use Rattle.query_plan.specs.declared.ranges.Range.{Range}

-- Of a tree of rows, and of an index's tree that has their entries, these are the rows of a key, which has at most as many values as the index
-- has columns; or memory was short, or a disk's call failed.
abbrev pub LoadsKeyed : PageMap → ℕ → BoundSource → ℕ → List IndexColumn → List Value → Result (List Row) Fault → Type 0
LoadsKeyed pages size table root columns key result = (rows : List TableRow) (used : List ℕ) → AreWhole size pages
    → HasRows pages size table.root table.shape rows
    → IsIndexTree pages size root (collations (columns_in columns)) (entries_of_rows (columns_in columns) rows) used
    → length key ≤ length columns
    → MatchResult result (λ found. found ≡ map as_source (filter (λ row. has_key columns key row.1) rows)) IsOutside

-- The same of a key and a range of the values of the column after the key's, where the index has one.
abbrev pub LoadsInRange : PageMap → ℕ → BoundSource → ℕ → List IndexColumn → List Value → Range → Result (List Row) Fault → Type 0
LoadsInRange pages size table root columns key range result = (rows : List TableRow) (used : List ℕ) → AreWhole size pages
    → HasRows pages size table.root table.shape rows
    → IsIndexTree pages size root (collations (columns_in columns)) (entries_of_rows (columns_in columns) rows) used
    → length key < length columns
    → MatchResult result (λ found. found ≡ map as_source (filter (λ row. has_range columns key range row.1) rows)) IsOutside

-- The same of rows whose entries begin with a key, and go on with a value in a range, if there is one.
abbrev pub LoadsSought : PageMap → ℕ → BoundSource → ℕ → List IndexColumn → List Value → Option Range → Result (List Row) Fault → Type 0
LoadsSought pages size table root columns key range result = (rows : List TableRow) (used : List ℕ) → AreWhole size pages
    → HasRows pages size table.root table.shape rows
    → IsIndexTree pages size root (collations (columns_in columns)) (entries_of_rows (columns_in columns) rows) used
    → length key ≤ length columns
    → MatchResult result
    (λ found. found ≡ map as_source (filter (λ row. is_sought (collations (columns_in columns)) key range (indexed (columns_in columns) row)) rows))
    IsOutside
