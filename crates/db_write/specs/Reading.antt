-- Which rows of a table are read for a condition, and by a rowid (The SQLite Query Optimizer Overview, "WHERE Clause Analysis").
use Rattle.std.specs.Prelude.{◌≡◌, ℕ, ℤ, true, List, [], ◌∷◌, map, Option, Some, None, Result, MatchResult}
use Rattle.std.specs.FinMap.Entries.{find}
use Rattle.std.specs.Ordering.{int_cmp}
use Rattle.sqlval.specs.Faults.{IsOutside}
use Rattle.sqlval.specs.PageSizes.{IsPageSize}
use Rattle.sqlval.specs.declared.fault.Fault.{Fault}
use Rattle.pages.specs.Map.{PageMap}
use Rattle.db_layout.specs.Layout.{Owner}
use Rattle.catalog.specs.Listed.{with_rows}
use Rattle.catalog.specs.Rows.{are_rows}
use Rattle.catalog.specs.declared.tables.Table.{Table}
use Rattle.query_terms.specs.Terms.{Term}
use Rattle.query_terms.specs.Values.{Row}
use Rattle.row_scan.specs.Rows.{TableRow}
use Rattle.row_scan.specs.Sources.{as_source}
use Rattle.row_change.specs.Meaning.{AreEnough}
use Rattle.db_layout.specs.Trees.{AreAmong}

-- Of a table whose trees stand among all of a file, with rows that it may hold, these rows are enough for the condition; or memory was short,
-- or a disk's call failed.
abbrev pub LoadsEnough : PageMap → ℕ → Table → Option Term → Result (List Row) Fault → Type 0
LoadsEnough pages size table condition result = (schema : Owner) (before after : List Owner) (rows : List TableRow) → IsPageSize size → schema.root ≡ 1
    → AreAmong pages size schema before table rows after → are_rows (with_rows table rows) ≡ true
    → MatchResult result (λ found. AreEnough condition found rows) IsOutside

-- the row of a rowid, as the only one, if there is one
abbrev pub only_at : ℤ → List TableRow → List TableRow
only_at rowid rows = elim (find int_cmp rowid rows) [ None ↦ [] | Some values ↦ (rowid, values) ∷ [] ]

-- Of a table whose trees stand among all of a file, with rows that it may hold, this is the row of a rowid, or none where there is none; or
-- memory was short, or a disk's call failed.
abbrev pub FindsOneRow : PageMap → ℕ → Table → ℤ → Result (List Row) Fault → Type 0
FindsOneRow pages size table rowid result = (schema : Owner) (before after : List Owner) (rows : List TableRow) → IsPageSize size → schema.root ≡ 1
    → AreAmong pages size schema before table rows after → are_rows (with_rows table rows) ≡ true
    → MatchResult result (λ found. found ≡ map as_source (only_at rowid rows)) IsOutside
