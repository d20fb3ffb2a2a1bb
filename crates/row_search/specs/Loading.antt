-- The rows of a table that have some rowids (Query Planning, "Lookup by rowid").
use Rattle.std.specs.Prelude.{◌≡◌, ◌++◌, ℕ, ℤ, List, map, ⊤, Result, MatchResult}
use Rattle.std.specs.List.{flat_map}
use Rattle.sqlval.specs.Faults.{IsOutside}
use Rattle.sqlval.specs.declared.fault.Fault.{Fault}
use Rattle.pages.specs.Map.{PageMap, AreWhole}
use Rattle.query_terms.specs.Values.{Row}
use Rattle.query_names.specs.declared.queries.BoundSource.{BoundSource}
use Rattle.row_scan.specs.Rows.{TableRow}
use Rattle.row_scan.specs.Sources.{as_source, rows_at}
use Rattle.row_scan.specs.Trees.{HasRows}

-- of a tree of rows that of a rowid comes after others; or memory was short, or a disk's call failed
abbrev pub AddsRowsAt : PageMap → ℕ → BoundSource → ℤ → List Row → List Row → Result ⊤ Fault → Type 0
AddsRowsAt pages size table rowid before after result = (rows : List TableRow) → AreWhole size pages
    → HasRows pages size table.root table.shape rows
    → MatchResult result (λ done. after ≡ before ++ map as_source (rows_at rowid rows)) IsOutside

-- of a tree of rows these are those of each of these rowids; or memory was short, or a disk's call failed
abbrev pub LoadsRowsOf : PageMap → ℕ → BoundSource → List ℤ → Result (List Row) Fault → Type 0
LoadsRowsOf pages size table rowids result = (rows : List TableRow) → AreWhole size pages → HasRows pages size table.root table.shape rows
    → MatchResult result (λ found. found ≡ map as_source (flat_map (λ rowid. rows_at rowid rows) rowids)) IsOutside
