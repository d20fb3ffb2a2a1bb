-- Of rows that a table may hold, a record holds each index's entry, unless the index is too wide.
use Rattle.std.proofs.Common.{◌≡◌, refl, sym, ap, ◌∙◌, ◌≤◌, ◌+◌, ◌&&◌, ◌||◌, ◌==◌, ℕ, zero, suc, Bool, true, false, List, [], ◌∷◌, length, map, slice_index_or, nat_le, arith}
use Rattle.std.proofs.lemmas.Bool.{false≢true}
use Rattle.std.proofs.lemmas.Bool.Decides.{nat_tests}
use Rattle.std.proofs.lemmas.List.{length-map}
use Rattle.std.proofs.lemmas.List.Elements.{All-from_recursion}
use Rattle.std.specs.List.{AllByRecursion, list_all, list_any}
use Rattle.std.specs.Ordering.{int_cmp}
use Rattle.std.specs.Str.Lossy.{utf8_valid_len}
use Rattle.sqlval.specs.Conversion.{is_word}
use Rattle.sqlval.specs.Lists.{is_rising}
use Rattle.sqlval.specs.declared.value.Value.{Value}
use Rattle.sqlval.specs.declared.value.Value.TheVariants.{Null, Int, Text, Blob}
use Rattle.record.specs.Writing.{AreStorable, IsStorable}
use Rattle.catalog.specs.Listed.{own_column, with_rows}
use Rattle.catalog.specs.Rows.{are_rows, holds_rowid, is_row, is_value}
use Rattle.catalog.specs.declared.tables.Index.{Index}
use Rattle.catalog.specs.declared.tables.IndexColumn.{IndexColumn}
use Rattle.catalog.specs.declared.tables.Table.{Table}
use Rattle.row_scan.specs.Rows.{TableRow}
use Rattle.index_entries.specs.Entries.{Columns, indexed}
use Rattle.index_entries.specs.Keeping.{columns_in}
use Rattle.db_layout.specs.Trees.{columns_of}
use Rattle.db_write.specs.Changing.{has_wide_index, is_wide}
use Rattle.db_write.specs.Turning.{AreEntriesStorable, CanBeIndexed}
use Rattle.db_write.proofs.Shuffling.{Shuffles, all_come}

first_of : (a b : Bool) → a && b ≡ true → a ≡ true
first_of true b e = refl
first_of false b e = absurd (false≢true e)

second_of : (a b : Bool) → a && b ≡ true → b ≡ true
second_of true b e = e
second_of false b e = absurd (false≢true e)

neither : (a b : Bool) → a || b ≡ false → (a ≡ false) × (b ≡ false)
neither false b e = (refl, e)
neither true b e = absurd (false≢true (sym e))

-- ---- values

within : (n : ℕ) → nat_le n 1000000 ≡ true → n ≤ 1000000
within n e = grind (arith, nat_tests)

storable : (value : Value) → is_value value ≡ true → IsStorable value
storable Null e = tt
storable (Int n) e = tt
storable (Text t) e = within (length t) (first_of (nat_le (length t) 1000000) (utf8_valid_len t == length t) e)
storable (Blob b) e = within (length b) (first_of (nat_le (length b) 1000000) _ e)

-- NULL past the last
at_place : (values : List Value) (place : ℕ) → list_all is_value values ≡ true → IsStorable (slice_index_or values place Null)
at_place [] place e = tt
at_place (value ∷ values) zero e = storable value (first_of (is_value value) (list_all is_value values) e)
at_place (value ∷ values) (suc place) e = at_place values place (second_of (is_value value) (list_all is_value values) e)

-- ---- entries

entry_values : (columns : Columns) (row : TableRow) → list_all is_value row.1 ≡ true → AllByRecursion IsStorable (indexed columns row)
entry_values [] row e = (tt, tt)
entry_values (column ∷ columns) row e = (at_place row.1 column.0 e, entry_values columns row e)

entry_long : (columns : Columns) (row : TableRow) → length (indexed columns row) ≡ length columns + 1
entry_long [] row = refl
entry_long (column ∷ columns) row = (let e = entry_long columns row in omega (arith, e))

not_wide : (n : ℕ) → is_wide n ≡ false → n ≤ 999
not_wide n e = grind (arith, nat_tests)

entry_storable : (columns : Columns) (row : TableRow) → is_wide (length columns) ≡ false → list_all is_value row.1 ≡ true → AreStorable (indexed columns row)
entry_storable columns row few e = (
  (let long = entry_long columns row in let most = not_wide (length columns) few in omega (arith, long, most)),
  All-from_recursion IsStorable (indexed columns row) (entry_values columns row e),
)

values_of_row : (t : Table) (rows : List TableRow) (row : TableRow) → is_row (with_rows t rows) row ≡ true → list_all is_value row.1 ≡ true
values_of_row t rows row e = second_of (is_word row.0 && length row.1 == length (with_rows t rows).columns) (list_all is_value row.1) (first_of (is_word row.0 && length row.1 == length (with_rows t rows).columns && list_all is_value row.1) (holds_rowid (own_column t) row) e)

-- ---- rows

entries_storable : (columns : Columns) (t : Table) (held rows : List TableRow) → is_wide (length columns) ≡ false → list_all (is_row (with_rows t held)) rows ≡ true → CanBeIndexed columns rows
entries_storable columns t held [] few e = tt
entries_storable columns t held (row ∷ rows) few e = (
  entry_storable columns row few (values_of_row t held row (first_of (is_row (with_rows t held) row) (list_all (is_row (with_rows t held)) rows) e)),
  entries_storable columns t held rows few (second_of (is_row (with_rows t held) row) (list_all (is_row (with_rows t held)) rows) e),
)

rows_are : (t : Table) (rows : List TableRow) → are_rows (with_rows t rows) ≡ true → list_all (is_row (with_rows t rows)) rows ≡ true
rows_are t rows fit = second_of (is_rising int_cmp (map (λ r. r.0) rows)) (list_all (is_row (with_rows t rows)) rows) fit

same_width : (columns : List IndexColumn) → is_wide (length (columns_in columns)) ≡ is_wide (length columns)
same_width columns = ap is_wide (length-map columns (λ column. (column.place, column.collation)))

-- an entry can't be stored only where there are too many columns
pub wide_if : (columns : List IndexColumn) (t : Table) (rows : List TableRow) → are_rows (with_rows t rows) ≡ true → (CanBeIndexed (columns_in columns) rows → ⊥) → is_wide (length columns) ≡ true
wide_if columns t rows fit long = by (is_wide (length columns)) refl
  where
    by : (b : Bool) → is_wide (length columns) ≡ b → b ≡ true
    by true e = refl
    by false e = absurd (long (entries_storable (columns_in columns) t rows rows (same_width columns ∙ e) (rows_are t rows fit)))

-- and of several indexes where one has too many
pub wide_among : (t : Table) (rows : List TableRow) → are_rows (with_rows t rows) ≡ true → (AreEntriesStorable t.indexes rows → ⊥) → has_wide_index t ≡ true
wide_among t rows fit long = by (has_wide_index t) refl
  where
    each : (indexes : List Index) → list_any (λ i. is_wide (length i.columns)) indexes ≡ false → AreEntriesStorable indexes rows
    each [] e = tt
    each (index ∷ indexes) e =
        let both = neither (is_wide (length index.columns)) (list_any (λ i. is_wide (length i.columns)) indexes) e in
        (entries_storable (columns_of index) t rows rows (same_width index.columns ∙ both.0) (rows_are t rows fit), each indexes both.1)

    by : (b : Bool) → has_wide_index t ≡ b → b ≡ true
    by true e = refl
    by false e = absurd (long (each t.indexes e))

-- what holds of all rows' entries holds of those of the rows that come
pub some_storable : {stay come now : List TableRow} (indexes : List Index) → Shuffles stay come now → AreEntriesStorable indexes now → AreEntriesStorable indexes come
some_storable [] shuffle all = tt
some_storable (index ∷ indexes) shuffle all = (all_come (λ row. AreStorable (indexed (columns_of index) row)) shuffle all.0, some_storable indexes shuffle all.1)
