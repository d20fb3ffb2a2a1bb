-- The rows of a table as a query's source has them.
use Rattle.std.specs.Prelude.{◌≡◌, ℕ, ℤ, ◌++◌, List, filter, map, Option, Some, None, option_map, Result, Ok, MatchResult, Vec}
use Rattle.std.specs.Ordering.{int_eq}
use Rattle.std.specs.declared.alloc.Global.{Global}
use Rattle.std.specs.declared.rc.Rc.{Rc}
use denote.Ref.{Bor}
use Rattle.sqlval.specs.Faults.{IsOutside}
use Rattle.sqlval.specs.declared.fault.Fault.{Fault}
use Rattle.sqlval.specs.declared.value.Value.TheVariants.{Int}
use Rattle.record.specs.Columns.{values_in}
use Rattle.tree_leaf.specs.Leaf.{Entry}
use Rattle.pages.specs.Map.{PageMap, AreWhole}
use Rattle.tree_page.specs.Cells.{Pairwise}
use Rattle.tree_table.specs.Rows.{rows_from}
use Rattle.tree_table.specs.Tree.{IsTableTree}
use Rattle.catalog.specs.declared.tables.RowShape.{RowShape}
use Rattle.query_terms.specs.Stored.{shown_row, with_own}
use Rattle.query_terms.specs.Values.{Row}
use Rattle.query_terms.specs.declared.tree.Place.{Place}
use Rattle.query_names.specs.declared.queries.BoundSource.{BoundSource}
use Rattle.row_scan.specs.Rows.{IsRow, TableRow}
use Rattle.row_scan.specs.Trees.{HasRows}

-- a row with its rowid as a value
abbrev pub as_source : TableRow → Row
as_source row = record { rowid = Int row.0; values = row.1 }

-- what an entry is as a source's row, with the rowid at the place of its own column, where there is one
abbrev pub as_held : Option ℕ → Entry → Row
as_held own entry = record { rowid = Int entry.rowid; values = with_own own (Int entry.rowid) (values_in entry.payload) }

-- of a tree of rows these are the rows; or memory was short, or a disk's call failed
abbrev pub LoadsRows : PageMap → ℕ → BoundSource → Result (List Row) Fault → Type 0
LoadsRows pages size table result = (rows : List TableRow) → AreWhole size pages → HasRows pages size table.root table.shape rows
    → MatchResult result (λ found. found ≡ map as_source rows) IsOutside

-- the rows of this rowid
abbrev pub rows_at : ℤ → List TableRow → List TableRow
rows_at rowid rows = filter (λ row. int_eq row.0 rowid) rows

-- of a tree of rows these are those of a rowid; or memory was short, or a disk's call failed
abbrev pub LoadsRowsAt : PageMap → ℕ → BoundSource → ℤ → Result (List Row) Fault → Type 0
LoadsRowsAt pages size table rowid result = (rows : List TableRow) → AreWhole size pages → HasRows pages size table.root table.shape rows
    → MatchResult result (λ found. found ≡ map as_source (rows_at rowid rows)) IsOutside

-- Of a tree these are the next rows that come, as a source has them, and the others come later; or memory was short, or a disk's call
-- failed.
abbrev pub GivesRows : PageMap → ℕ → ℕ → Option ℕ → Option ℤ → Option ℤ → Result (List Row) Fault → Type 0
GivesRows pages size root own next later result = (entries : List Entry) (used : List ℕ) → AreWhole size pages → IsTableTree pages size root entries used
    → MatchResult result (λ found. map (as_held own) (rows_from next entries) ≡ found ++ map (as_held own) (rows_from later entries)) IsOutside

-- ---- rows as a view shows them

-- the row, or what is shown of it where only the values at some places are
abbrev pub shown_in : Option (List Place) → Row → Row
shown_in None row = row
shown_in (Some places) row = shown_row places row

-- what an entry is as a source's row, or what is shown of it
abbrev pub as_shown : Option (List Place) → Option ℕ → Entry → Row
as_shown shown own entry = shown_in shown (as_held own entry)

-- what is shown of a row
abbrev pub shown_source : Option (List Place) → TableRow → Row
shown_source shown row = shown_in shown (as_source row)

-- and it is never refused
abbrev pub shown_at : Option (List Place) → Option ℕ → Entry → Result Row Fault
shown_at shown own entry = Ok (as_shown shown own entry)

-- of a tree of rows this is shown; or memory was short, or a disk's call failed
abbrev pub LoadsShown : PageMap → ℕ → Option (List Place) → BoundSource → Result (List Row) Fault → Type 0
LoadsShown pages size shown table result = (rows : List TableRow) → AreWhole size pages → HasRows pages size table.root table.shape rows
    → MatchResult result (λ found. found ≡ map (shown_source shown) rows) IsOutside

-- the places that are handed over, if any are
abbrev pub places_shown : Option (Bor (Rc (Vec Place Global) Global)) → Option (List Place)
places_shown shown = option_map (λ places. places.now.value.items) shown

-- Of a tree these are the next rows that come, as they are shown, and the others come later; or memory was short, or a disk's call failed.
abbrev pub GivesShown : PageMap → ℕ → ℕ → Option (List Place) → Option ℕ → Option ℤ → Option ℤ → Result (List Row) Fault → Type 0
GivesShown pages size root shown own next later result = (entries : List Entry) (used : List ℕ) → AreWhole size pages → IsTableTree pages size root entries used
    → MatchResult result (λ found. map (as_shown shown own) (rows_from next entries) ≡ found ++ map (as_shown shown own) (rows_from later entries)) IsOutside

-- Entries that are rows of a table are held as these.
abbrev pub HoldRows : Type 0
HoldRows = (shape : RowShape) (entries : List Entry) (rows : List TableRow) → Pairwise (IsRow shape) entries rows → map (as_held shape.own) entries ≡ map as_source rows
