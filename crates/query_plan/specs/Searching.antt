-- What a condition seeks of a source, which rows a search finds, and that the others needn't be read (The SQLite Query Optimizer Overview,
-- "WHERE Clause Analysis"; Query Planning, "Searching", "Indices" and "Multi-Column Indices").
use Rattle.std.specs.Prelude.{◌≡◌, ℕ, ℤ, Bool, true, false, not, List, Option, None, Some, Ok, slice_get, unwrap_or}
use Rattle.std.specs.Ordering.{int_eq}
use Rattle.sqlval.specs.Refusals.{Answer}
use Rattle.sqlval.specs.declared.value.Value.TheVariants.{Int}
use Rattle.catalog.specs.declared.tables.Index.{Index}
use Rattle.query_terms.specs.Terms.{Term}
use Rattle.query_terms.specs.Values.{Row}
use Rattle.query_names.specs.Readings.{holds}
use Rattle.query_plan.specs.Keys.{SeeksKey, has_key}
use Rattle.query_plan.specs.Ranges.{SeeksRange, SeeksRowids, has_range, is_outside}
use Rattle.query_plan.specs.Seeking.{SeeksRowid}
use Rattle.query_plan.specs.declared.searching.Search.{Search}
use Rattle.query_plan.specs.declared.searching.Search.TheVariants.{Rowid, Rowids, Key, Range as InRange}

-- of the source of this number the condition seeks this rowid or these rowids, or this key or range of the index at this place
abbrev pub IsSought : List Index → ℕ → Term → Search → Type 0
IsSought indexes n condition (Rowid rowid) = SeeksRowid n condition rowid
IsSought indexes n condition (Rowids low high) = SeeksRowids n condition low high
IsSought indexes n condition (Key place key) = (index : Index) × (slice_get indexes place ≡ Some index) × SeeksKey n condition index.columns key
IsSought indexes n condition (InRange place key range) =
    (index : Index) × (slice_get indexes place ≡ Some index) × SeeksRange n condition index.columns key range

-- ---- rows

-- whether a row has another rowid than this one
abbrev pub has_other : ℤ → Row → Bool
has_other rowid row = elim row.rowid [ Int other ↦ not (int_eq other rowid) | _ ↦ false ]

-- whether a search finds a row: all but those of another rowid, key or range
abbrev pub is_found : List Index → Search → Row → Bool
is_found indexes (Rowid rowid) row = not (has_other rowid row)
is_found indexes (Rowids low high) row = not (is_outside low high row)
is_found indexes (Key place key) row = elim (slice_get indexes place) [ None ↦ true | Some index ↦ has_key index.columns key row.values ]
is_found indexes (InRange place key range) row =
    elim (slice_get indexes place) [ None ↦ true | Some index ↦ has_range index.columns key range row.values ]

-- ---- the law

-- an answer that isn't refused, and isn't true
abbrev pub IsUntrue : Answer (Option Bool) → Type 0
IsUntrue answer = (test : Option Bool) × (answer ≡ Ok test) × (unwrap_or test false ≡ false)

-- Where a condition seeks something of a source and the search doesn't find the source's row, the condition isn't true over it and the rows
-- of the other sources, and isn't refused.
abbrev pub OtherRowsFail : Type 0
OtherRowsFail = (indexes : List Index) (n : ℕ) (condition : Term) (search : Search) → IsSought indexes n condition search
    → (rows : List Row) (row : Row) → slice_get rows n ≡ Some row → is_found indexes search row ≡ false → IsUntrue (holds condition rows)
