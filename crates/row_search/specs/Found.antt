-- The rows of a table that a search finds, and those that a condition needs (Query Planning, "Searching"; The SQLite Query Optimizer
-- Overview, "WHERE Clause Analysis").
use Rattle.std.specs.Prelude.{◌≡◌, ◌⊎◌, ℕ, true, List, filter, map, Option, None, Some, Result, MatchResult}
use Rattle.std.specs.List.{AllByRecursion}
use Rattle.sqlval.specs.Conversion.{is_word}
use Rattle.sqlval.specs.Faults.{IsOutside}
use Rattle.sqlval.specs.declared.fault.Fault.{Fault}
use Rattle.pages.specs.Map.{PageMap, AreWhole}
use Rattle.query_terms.specs.Terms.{Term}
use Rattle.query_terms.specs.Values.{Row}
use Rattle.tree_index.specs.Tree.{IsIndexTree}
use Rattle.index_entries.specs.Entries.{collations, entries_of_rows}
use Rattle.index_entries.specs.Keeping.{columns_in}
use Rattle.catalog.specs.declared.tables.Index.{Index}
use Rattle.query_names.specs.declared.queries.BoundSource.{BoundSource}
use Rattle.query_plan.specs.Asking.{IsChosen, SeeksNothing}
use Rattle.query_plan.specs.Searching.{IsSought, is_found}
use Rattle.query_plan.specs.declared.searching.Search.{Search}
use Rattle.row_scan.specs.Rows.{TableRow}
use Rattle.row_scan.specs.Sources.{as_source}
use Rattle.row_scan.specs.Trees.{HasRows}

-- the index's tree has the entries of these rows
abbrev pub HasEntriesOf : PageMap → ℕ → List TableRow → Index → Type 0
HasEntriesOf pages size rows index = (used : List ℕ)
    × IsIndexTree pages size index.root (collations (columns_in index.columns)) (entries_of_rows (columns_in index.columns) rows) used

-- A table's tree has these rows, whose rowids have 64 bits, and the trees of its indexes have their entries.
pub record HasIndexed (pages : PageMap) (size : ℕ) (table : BoundSource) (indexes : List Index) (rows : List TableRow) : Type 0 where
  pub whole : AreWhole size pages
  pub has : HasRows pages size table.root table.shape rows
  pub words : AllByRecursion (λ (row : TableRow). is_word row.0 ≡ true) rows
  pub entries : AllByRecursion (HasEntriesOf pages size rows) indexes

-- Of such trees these are the rows that a search finds; or memory was short, or a disk's call failed.
abbrev pub FindsSought : PageMap → ℕ → BoundSource → List Index → Search → Result (List Row) Fault → Type 0
FindsSought pages size table indexes search result = (rows : List TableRow) → HasIndexed pages size table indexes rows
    → MatchResult result (λ found. found ≡ filter (is_found indexes search) (map as_source rows)) IsOutside

-- These rows are read for a condition: those that the search finds which it makes; or where it seeks nothing, or there is none, all.
abbrev pub AreNeeded : List Index → Option Term → List Row → List Row → Type 0
AreNeeded indexes None found all = found ≡ all
AreNeeded indexes (Some condition) found all =
    ((search : Search) × IsSought indexes 0 condition search × IsChosen indexes 0 condition search × (found ≡ filter (is_found indexes search) all))
    ⊎ (SeeksNothing indexes 0 condition × (found ≡ all))

-- Of such trees these are the rows that a condition needs; or memory was short, or a disk's call failed.
abbrev pub FindsNeeded : PageMap → ℕ → BoundSource → List Index → Option Term → Result (List Row) Fault → Type 0
FindsNeeded pages size table indexes condition result = (rows : List TableRow) → HasIndexed pages size table indexes rows
    → MatchResult result (λ found. AreNeeded indexes condition found (map as_source rows)) IsOutside
