-- What a row must be to stand in a table, and the rowid that it gets (SQL As Understood By SQLite, "CREATE TABLE", "Not Null Constraints" to "CHECK constraints", and "ROWIDs and the INTEGER PRIMARY KEY"; Implementation Limits For SQLite).
use Rattle.std.specs.Prelude.{ℕ, ◌-◌, ◌^◌, Bool, true, false, not, ◌&&◌, List, [], ◌∷◌, map, ℤ, pos, ◌+ℤ◌, int_lt, Option, Some, None, is_none, unwrap_or, Ok, Err, if◌then◌else◌, length, nat_le, slice_get, slice_set}
use Rattle.std.specs.List.{list_all, list_any}
use Rattle.sqlval.specs.Conversion.{converted}
use Rattle.sqlval.specs.Refusals.{Answer, ◌then◌, Refusal, NoSuch, RowidFull, RowidMismatch, NotNull, Check, TooLong, Unique, fold_answer}
use Rattle.sqlval.specs.declared.value.Value.{Value}
use Rattle.sqlval.specs.declared.value.Value.TheVariants.{Null, Int, Text, Blob}
use Rattle.catalog.specs.Database.{Name, Database, object, with_object, ATable, Table, TableColumn, Index, row, with_row, indexes_of}
use Rattle.query_names.specs.Keys.{is_null, clash}
use Rattle.query_names.specs.Readings.{holds}
use Rattle.query_terms.specs.Terms.{Term}
use Rattle.query_terms.specs.Values.{Row}

-- the table of a name
abbrev pub table_of : Database → Name → Answer Table
table_of db n = elim (object db n) [ Some (ATable t) ↦ Ok t | _ ↦ Err NoSuch ]

-- each value under its column's affinity
abbrev pub with_affinity : List TableColumn → List Value → Answer (List Value)
with_affinity (c ∷ cs) (v ∷ vs) = converted c.affinity v then λ w. with_affinity cs vs then λ ws. Ok (w ∷ ws)
with_affinity _ _ = Ok []

-- the value of the rowid's own column, if there is one
abbrev pub given_rowid : Table → List Value → Value
given_rowid t vs = elim t.rowid_column [ None ↦ Null | Some i ↦ unwrap_or (slice_get vs i) Null ]

-- the greatest of the rowids
abbrev pub greatest : List ℤ → Option ℤ
greatest [] = None
greatest (x ∷ xs) = elim (greatest xs) [ None ↦ Some x | Some y ↦ Some (if int_lt x y then y else x) ]

-- one above the greatest (SQLite Autoincrement, "The AUTOINCREMENT Keyword")
abbrev pub next_rowid : Table → Answer ℤ
next_rowid t = elim (greatest (map (λ r. r.0) t.rows)) [ None ↦ Ok (pos 1) | Some x ↦ (if int_lt x (pos (2 ^ 63 - 1)) then Ok (x +ℤ pos 1) else Err RowidFull) ]

-- the rowid of a new row: the one given, or the next where none is
abbrev pub new_rowid : Table → Value → Answer ℤ
new_rowid t Null = next_rowid t
new_rowid t (Int z) = Ok z
new_rowid t _ = Err RowidMismatch

-- an update leaves the rowid as it is, or gives an integer
abbrev pub updated_rowid : Table → ℤ → List Value → Answer ℤ
updated_rowid t id vs = elim t.rowid_column [ None ↦ Ok id | Some i ↦ elim (unwrap_or (slice_get vs i) Null) [ Int z ↦ Ok z | _ ↦ Err RowidMismatch ] ]

-- what NEW shows of the rowid before it is settled
abbrev pub shown_rowid : Table → ℤ → List Value → Value
shown_rowid t id vs = elim t.rowid_column [ None ↦ Int id | Some i ↦ unwrap_or (slice_get vs i) Null ]

-- with the rowid in its own column
abbrev pub with_rowid : Table → ℤ → List Value → List Value
with_rowid t id vs = elim t.rowid_column [ None ↦ vs | Some i ↦ slice_set vs i (Int id) ]

-- no NULL in a column that refuses it
abbrev pub not_null_holds : List TableColumn → List Value → Bool
not_null_holds (c ∷ cs) (v ∷ vs) = not (c.is_filled && is_null v) && not_null_holds cs vs
not_null_holds _ _ = true

-- a stored row
abbrev pub row_of : ℤ → List Value → Row
row_of id vs = record { rowid = Int id; values = vs }

-- a CHECK holds where it isn't 0, so also where it is NULL
abbrev pub check_holds : Row → Term → Answer Bool
check_holds r c = holds c (r ∷ []) then λ test. Ok (unwrap_or test true)

-- each CHECK holds for the row, or the first refusal
abbrev pub checks_hold : Row → List Term → Answer (Unit {0})
checks_hold r cs = fold_answer (λ _ c. check_holds r c then λ b. if b then Ok tt else Err Check) tt cs

-- a text or a blob of at most 1,000,000 bytes, or another value
abbrev pub is_short : Value → Bool
is_short (Text t) = nat_le (length t) 1000000
is_short (Blob b) = nat_le (length b) 1000000
is_short _ = true

-- a record can hold them
abbrev pub can_be_stored : List Value → Bool
can_be_stored vs = nat_le (length vs) 1000 && list_all is_short vs

-- no row of the table has its key in a UNIQUE index
abbrev pub is_unique_in : List (Name × Index) → List Value → Table → Bool
is_unique_in is vs t = not (list_any (λ i. list_any (λ r. clash i.1 vs r.1) t.rows) is)

-- a refusal where the test fails
abbrev pub demand : Bool → Refusal → Answer (Unit {0})
demand true r = Ok tt
demand false r = Err r

-- the row stored in a table that lacks it
abbrev pub stored : Database → Name → Table → ℤ → List Value → Answer Database
stored db n t id vs =
    demand (not_null_holds t.columns vs) NotNull then λ _.
    demand (can_be_stored vs) TooLong then λ _.
    checks_hold (row_of id vs) t.checks then λ _.
    demand (is_none (row t id)) Unique then λ _.
    demand (is_unique_in (indexes_of db n) vs t) Unique then λ _.
    Ok (with_object db n (ATable (with_row id vs t)))

-- what a new row holds where nothing is given
abbrev pub default_values : Table → List Value
default_values t = map (λ c. c.default) t.columns

-- the values at their places
abbrev pub set_values : List Value → List (ℕ × Value) → List Value
set_values vs [] = vs
set_values vs (p ∷ ps) = set_values (slice_set vs p.0 p.1) ps
