-- Searches by a range of rowids (The SQLite Query Optimizer Overview, "WHERE Clause Analysis"; Query Planning, "Lookup by rowid").
use Rattle.std.specs.Prelude.{◌≡◌, ℕ, ℤ, int_lt, Bool, false, not, ◌||◌, List, filter, map, Option, None, Some, Result, MatchResult}
use Rattle.sqlval.specs.Faults.{IsOutside}
use Rattle.sqlval.specs.declared.fault.Fault.{Fault}
use Rattle.sqlval.specs.declared.value.Value.TheVariants.{Int}
use Rattle.pages.specs.Map.{PageMap, AreWhole}
use Rattle.query_terms.specs.Values.{Row}
use Rattle.query_names.specs.declared.queries.BoundSource.{BoundSource}
use Rattle.row_scan.specs.Rows.{TableRow}
use Rattle.row_scan.specs.Sources.{as_source}
use Rattle.row_scan.specs.Trees.{HasRows}

-- a rowid is neither before the first of these nor after the second
abbrev pub is_from_to : ℤ → ℤ → ℤ → Bool
is_from_to low high rowid = not (int_lt rowid low || int_lt high rowid)

-- Of a tree of rows these are the rows of rowids from the one to the other, both among them; or memory was short, or a disk's call failed.
abbrev pub LoadsBetween : PageMap → ℕ → BoundSource → ℤ → ℤ → Result (List Row) Fault → Type 0
LoadsBetween pages size table low high result = (rows : List TableRow) → AreWhole size pages → HasRows pages size table.root table.shape rows
    → MatchResult result (λ found. found ≡ map as_source (filter (λ row. is_from_to low high row.0) rows)) IsOutside

-- ---- steps

-- a row up to this rowid may come from a place on
abbrev pub comes_upto : Option ℤ → ℤ → Bool
comes_upto None high = false
comes_upto (Some next) high = not (int_lt high next)

-- the row has a rowid, which isn't after this one
abbrev pub is_upto : ℤ → Row → Bool
is_upto high row = elim row.rowid [ Int rowid ↦ not (int_lt high rowid) | _ ↦ false ]
