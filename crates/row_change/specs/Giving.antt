-- Which rows given bring their rowids (SQL As Understood By SQLite, "CREATE TABLE", "ROWIDs and the INTEGER PRIMARY KEY", and "INSERT").
use Rattle.std.specs.Prelude.{◌≡◌, ℕ, ℤ, Bool, true, false, ◌&&◌, List, Option, Some, None, slice_index_or}
use Rattle.sqlval.specs.declared.value.Value.{Value}
use Rattle.sqlval.specs.declared.value.Value.TheVariants.{Null, Int}
use Rattle.catalog.specs.Listed.{own_column}
use Rattle.catalog.specs.declared.tables.Table.{Table}
use Rattle.row_scan.specs.Rows.{TableRow}
use Rattle.row_change.specs.Inserting.{last_rowid, row_added}
use Rattle.row_change.specs.Setting.{is_integer_at}

-- an integer is given at this place, if there is one
abbrev pub is_integer_given : List Value → Option ℕ → Bool
is_integer_given given None = false
is_integer_given given (Some place) = elim (slice_index_or given place Null) [ Int rowid ↦ true | _ ↦ false ]

-- The row given has an integer for the rowid's own column, which has the affinity INTEGER, so that it stores the integer as it is.
abbrev pub gives_rowid : Table → List (Option ℕ) → List Value → Bool
gives_rowid table places given = elim (own_column table) [
  | None ↦ false
  | Some own ↦ is_integer_at table.columns own && is_integer_given given (slice_index_or places own None)
]

-- What the row given becomes is the same after each last rowid.
abbrev pub NeedsNoLast : Table → List (Option ℕ) → List Value → Type 0
NeedsNoLast table places given = (one other : Option ℤ) → row_added table places one given ≡ row_added table places other given

-- This serves as the last rowid of the rows: after it the row given becomes what it becomes after that.
abbrev pub Serves : Table → List (Option ℕ) → List Value → Option ℤ → List TableRow → Type 0
Serves table places given last rows = row_added table places last given ≡ row_added table places (last_rowid rows) given
