-- What UPDATE makes of the rows of a table (SQL As Understood By SQLite, "UPDATE").
use Rattle.std.specs.Prelude.{ℕ, ℤ, Bool, true, false, not, ◌&&◌, ◌==◌, List, [], ◌∷◌, ◌++◌, map, zip, Option, Some, None, Ok, Err, if◌then◌else◌, slice_get, unwrap_or}
use Rattle.std.specs.FinMap.Entries.{put, where_key}
use Rattle.std.specs.List.{list_any}
use Rattle.std.specs.Ordering.{eq_by_cmp, int_cmp}
use Rattle.sqlval.specs.Refusals.{Answer, ◌then◌, RowidMismatch, all_answers}
use Rattle.sqlval.specs.declared.affinity.Affinity.TheVariants.{Integer}
use Rattle.sqlval.specs.declared.value.Value.{Value}
use Rattle.sqlval.specs.declared.value.Value.TheVariants.{Null, Int}
use Rattle.query_names.specs.Readings.{env_of, holds, values}
use Rattle.catalog.specs.Rows.{rowid_number}
use Rattle.catalog.specs.Listed.{as_column, own_column}
use Rattle.catalog.specs.declared.tables.Column.{Column}
use Rattle.catalog.specs.declared.tables.Table.{Table}
use Rattle.query_terms.specs.Terms.{Term}
use Rattle.query_terms.specs.Values.{Environment, Row}
use Rattle.row_scan.specs.Rows.{TableRow}
use Rattle.row_scan.specs.Sources.{as_source}
use Rattle.row_change.specs.Choosing.{chosen_or_all, is_chosen, tested}
use Rattle.row_change.specs.Constraints.{set_values, with_affinity}
use Rattle.row_change.specs.Demands.{admitted, demanded}

-- The values of a row with those of SET's expressions at their places, which are asked of the row as it was.
abbrev pub set_over : List (ℕ × Term) → Environment → List Value → Answer (List Value)
set_over sets seen before = values seen (map (λ s. s.1) sets) then λ given. Ok (set_values before (zip (map (λ s. s.0) sets) given))

-- and as the columns store them
abbrev pub values_set : List Column → List (ℕ × Term) → Row → Answer (List Value)
values_set columns sets row = set_over sets (env_of (row ∷ [])) row.values then λ values. with_affinity (map as_column columns) values

-- the rowid of a row whose rowid was this and whose values are these now: the one in its own column, if there is such a column
abbrev pub rowid_left : Option ℕ → ℤ → List Value → Answer ℤ
rowid_left own rowid values = elim own [
  | None ↦ Ok rowid
  | Some place ↦ elim (unwrap_or (slice_get values place) Null) [ Int now ↦ Ok now | _ ↦ Err RowidMismatch ]
]

-- what a row of this rowid becomes by SET, as the table demands it
abbrev pub row_after : Table → List (ℕ × Term) → ℤ → Row → Answer TableRow
row_after table sets rowid row =
    values_set table.columns sets row then λ values. rowid_left (own_column table) rowid values then λ now. demanded table (now, values)

-- what a row of a table becomes by SET
abbrev pub row_set : Table → List (ℕ × Term) → TableRow → Answer TableRow
row_set table sets row = row_after table sets row.0 (as_source row)

-- the column of this place has the affinity INTEGER
abbrev pub is_integer_at : List Column → ℕ → Bool
is_integer_at columns place = elim (slice_get columns place) [
  | None ↦ false
  | Some column ↦ elim column.affinity [ Integer ↦ true | _ ↦ false ]
]

-- SET names the column of this place
abbrev pub names_place : List (ℕ × Term) → ℕ → Bool
names_place sets place = list_any (λ s. s.0 == place) sets

-- SET leaves each row its rowid: no column is another name of the rowid, or that column has the affinity INTEGER, so that it stores the rowid as
-- it is, and SET doesn't name it.
abbrev pub keeps_rowids : Table → List (ℕ × Term) → Bool
keeps_rowids table sets = elim (own_column table) [
  | None ↦ true
  | Some place ↦ is_integer_at table.columns place && not (names_place sets place)
]

-- the rows that are meant become what SET makes of them, and the others stay; or the first refusal
abbrev pub rows_meant_set : Table → List (ℕ × Term) → (TableRow → Bool) → List TableRow → Answer (List TableRow)
rows_meant_set table sets is_meant rows = all_answers (map (λ row. if is_meant row then row_set table sets row else Ok row) rows)

-- The rows for which the condition is true, or all where there is none, become what SET makes of them, whether or not they are alone. The
-- condition is asked of all rows before the first is set.
abbrev pub rows_set_each : Table → List (ℕ × Term) → Option Term → List TableRow → Answer (List TableRow)
rows_set_each table sets None rows = rows_meant_set table sets (λ row. true) rows
rows_set_each table sets (Some condition) rows =
    all_answers (map (tested condition) rows) then λ tests. rows_meant_set table sets (is_chosen condition) rows

-- the rows without that of a rowid
abbrev pub rows_beside : ℤ → List TableRow → List TableRow
rows_beside rowid rows = where_key int_cmp (λ other. not (eq_by_cmp int_cmp rowid other)) rows

-- Of the table's rows these, one after another, become what SET makes of them, each alone among the others as they are then; or the first
-- refusal.
abbrev pub rows_turned : Table → List (ℕ × Term) → List TableRow → List TableRow → Answer (List TableRow)
rows_turned table sets rows [] = Ok rows
rows_turned table sets rows (old ∷ olds) =
    row_set table sets old then λ new.
    admitted table (rows_beside old.0 rows) new then λ new.
    rows_turned table sets (put int_cmp new.0 new.1 (rows_beside old.0 rows)) olds

-- The rows for which the condition is true, or all where there is none, become what SET makes of them. The condition is asked of all
-- rows before the first is set.
abbrev pub rows_set : Table → List (ℕ × Term) → Option Term → List TableRow → Answer (List TableRow)
rows_set table sets condition rows = chosen_or_all condition rows then λ olds. rows_turned table sets rows olds

-- ---- of a source's rows

-- whether the condition is true for a row, or there is none
abbrev pub is_meant_for : Option Term → Row → Answer Bool
is_meant_for None row = Ok true
is_meant_for (Some condition) row = holds condition (row ∷ []) then λ test. Ok (unwrap_or test false)

-- after some rows those that are meant, or the first refusal
abbrev pub rows_meant : Option Term → List Row → List Row → Answer (List Row)
rows_meant condition before [] = Ok before
rows_meant condition before (row ∷ rows) =
    is_meant_for condition row then λ test. rows_meant condition (if test then before ++ row ∷ [] else before) rows

-- what a source's row becomes by SET
abbrev pub source_set : Table → List (ℕ × Term) → Row → Answer TableRow
source_set table sets row = row_after table sets (rowid_number row.rowid) row

-- what the rows that are meant become
abbrev pub rows_changed : Table → List (ℕ × Term) → Option Term → List Row → Answer (List TableRow)
rows_changed table sets condition rows = rows_meant condition [] rows then λ them. all_answers (map (source_set table sets) them)
