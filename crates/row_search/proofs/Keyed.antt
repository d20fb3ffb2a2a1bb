-- The rows of the entries that are looked for, by rising rowid, are those of the key and the range.
use Rattle.std.proofs.Common.{◌≡◌, refl, ap, ◌∙◌, ◌≤◌, ◌<◌, ℤ, Bool, true, false, ◌&&◌, cond, List, [], ◌∷◌, length, map, filter, slice_index_or, Option, Some, None, arith}
use Rattle.std.proofs.lemmas.Cmp.{eq_by_cmp_equiv, int_cmp_total}
use Rattle.std.proofs.lemmas.List.{length-map}
use Rattle.std.proofs.lemmas.Map.Lookups.{exact_signed}
use Rattle.std.specs.List.{AllByRecursion, flat_map}
use Rattle.std.specs.Ordering.{int_cmp, is_eq, is_gt, ordering_then}
use Rattle.std.specs.declared.cmp.Ordering.{Ordering}
use Rattle.std.specs.declared.cmp.Ordering.TheVariants.{Less, Equal, Greater}
use Rattle.sqlval.specs.Lists.{is_rising, placed, sorted}
use Rattle.sqlval.specs.Order.{order}
use Rattle.sqlval.specs.declared.collation.Collation.{Collation}
use Rattle.sqlval.specs.declared.value.Value.{Value}
use Rattle.sqlval.specs.declared.value.Value.TheVariants.{Null}
use Rattle.sqlval.proofs.Ordering.{total}
use Rattle.tree_index.specs.Entries.{AreEntries, entry_cmp}
use Rattle.index_entries.specs.Entries.{Columns, collations, entries_of_rows, indexed}
use Rattle.row_scan.specs.Rows.{TableRow}
use Rattle.row_scan.specs.Sources.{rows_at}
use Rattle.index_entries.specs.Keeping.{columns_in}
use Rattle.catalog.specs.declared.tables.IndexColumn.{IndexColumn}
use Rattle.row_search.specs.Finding.{EndsWithRowid, begins_with, first_rowids, goes_on_in, is_sought, entry_rowid, sought_from}
use Rattle.query_plan.specs.Ranges.{has_range}
use Rattle.query_plan.specs.declared.ranges.Range.{Range}
use Rattle.query_plan.specs.Keys.{has_key}
use Rattle.row_search.proofs.Ends.{ends_with}
use Rattle.row_search.proofs.Gathered.{of_sorted}
use Rattle.row_search.proofs.LookedUp.{all_chosen, ascending, chosen_ascend, chosen_through, each_found, each_through, looked_up, sorted_already}
use Rattle.row_search.proofs.Together.{first_are_sought}

-- ---- an entry of a row

ends_so : (columns : Columns) (row : TableRow) → EndsWithRowid (indexed columns row)
ends_so columns row = record { values = map (λ column. slice_index_or row.1 column.0 Null) columns; rowid = row.0; is = refl }

both_tied : (o p : Ordering) → is_eq (ordering_then o p) ≡ (is_eq o && is_eq p)
both_tied Less p = refl
both_tied Equal p = refl
both_tied Greater p = refl

-- ---- the rows that are looked for

-- its entry begins with a key where a row has that key
begins_as : (columns : List IndexColumn) (key : List Value) (row : TableRow) → length key ≤ length columns
    → begins_with (collations (columns_in columns)) key (indexed (columns_in columns) row) ≡ has_key columns key row.1
begins_as [] [] row le = refl
begins_as [] (k ∷ key) row le = absurd (omega (arith, le))
begins_as (column ∷ columns) [] row le = refl
begins_as (column ∷ columns) (k ∷ key) row le =
    let value = slice_index_or row.1 column.place Null in
    both_tied (order column.collation k value) (entry_cmp (collations (columns_in columns)) key (indexed (columns_in columns) row))
    ∙ (ap (λ b. b && begins_with (collations (columns_in columns)) key (indexed (columns_in columns) row)) ((eq_by_cmp_equiv (total column.collation)).symm k value)
    ∙ ap (λ b. is_eq (order column.collation value k) && b) (begins_as columns key row (omega (arith, le))))

and_true : (b : Bool) → (b && true) ≡ b
and_true true = refl
and_true false = refl

pub has_so : (columns : List IndexColumn) (key : List Value) (row : TableRow) → length key ≤ length columns
    → is_sought (collations (columns_in columns)) key None (indexed (columns_in columns) row) ≡ has_key columns key row.1
has_so columns key row le = and_true (begins_with (collations (columns_in columns)) key (indexed (columns_in columns) row)) ∙ begins_as columns key row le

-- and goes on in a range where the row's next value lies in it
pub lies_so : (columns : List IndexColumn) (key : List Value) (range : Range) (row : TableRow) → length key < length columns
    → is_sought (collations (columns_in columns)) key (Some range) (indexed (columns_in columns) row) ≡ has_range columns key range row.1
lies_so [] key range row lt = absurd (omega (arith, lt))
lies_so (column ∷ columns) [] range row lt = refl
lies_so (column ∷ columns) (k ∷ key) range row lt =
    let value = slice_index_or row.1 column.place Null in
    one_more (order column.collation k value) (entry_cmp (collations (columns_in columns)) key (indexed (columns_in columns) row))
    (goes_on_in (collations (columns_in columns)) key (Some range) (indexed (columns_in columns) row))
    ∙ (ap (λ b. b && is_sought (collations (columns_in columns)) key (Some range) (indexed (columns_in columns) row)) ((eq_by_cmp_equiv (total column.collation)).symm k value)
    ∙ ap (λ b. is_eq (order column.collation value k) && b) (lies_so columns key range row (omega (arith, lt))))
  where
    one_more : (o p : Ordering) (b : Bool) → (is_eq (ordering_then o p) && b) ≡ (is_eq o && (is_eq p && b))
    one_more Less p b = refl
    one_more Equal p b = refl
    one_more Greater p b = refl

-- ---- all entries

module _ {X : Type 0} (P : X → Type 0) (cmp : X → X → Ordering) where
  all_placed : (x : X) (xs : List X) → P x → AllByRecursion P xs → AllByRecursion P (placed cmp x xs)
  all_placed x [] is all = (is, tt)
  all_placed x (y ∷ ys) is all = by (is_gt (cmp x y)) (all_placed x ys is all.1)
    where
      by : (b : Bool) → AllByRecursion P (placed cmp x ys) → AllByRecursion P (cond b (y ∷ placed cmp x ys) (x ∷ y ∷ ys))
      by true rest = (all.0, rest)
      by false rest = (is, all)

  all_sorted : (xs : List X) → AllByRecursion P xs → AllByRecursion P (sorted cmp xs)
  all_sorted [] all = tt
  all_sorted (x ∷ xs) all = all_placed x (sorted cmp xs) all.0 (all_sorted xs all.1)

each_ends : (columns : Columns) (rows : List TableRow) → AllByRecursion EndsWithRowid (map (indexed columns) rows)
each_ends columns [] = tt
each_ends columns (row ∷ rows) = (ends_so columns row, each_ends columns rows)

-- the entries of rows end with rowids
pub all_end : (columns : Columns) (rows : List TableRow) → AllByRecursion EndsWithRowid (entries_of_rows columns rows)
all_end columns rows = all_sorted EndsWithRowid (entry_cmp (collations columns)) (map (indexed columns) rows) (each_ends columns rows)

-- ---- rows by rising rowid

module _ (columns : List IndexColumn) (key : List Value) (range : Option Range) (rows : List TableRow) where
  abbrev under : List Collation
  under = collations (columns_in columns)

  abbrev test : TableRow → Bool
  test row = is_sought under key range (indexed (columns_in columns) row)

  abbrev looked : List ℤ → List TableRow
  looked rowids = flat_map (λ rowid. rows_at rowid rows) (sorted int_cmp rowids)

  -- of an index's entries, and of rows by rising rowid
  pub sought_found : length key ≤ length columns → AreEntries under (entries_of_rows (columns_in columns) rows) → is_rising int_cmp (map (λ row. row.0) rows) ≡ true
      → looked (first_rowids (is_sought under key range) (sought_from under key range (entries_of_rows (columns_in columns) rows))) ≡ filter test rows
  sought_found le are rows_rise =
      let ascend = ascending rows rows_rise in
      let many : length under ≡ length columns = length-map (columns_in columns) (λ column. column.1) ∙ length-map columns (λ (column : IndexColumn). (column.place, column.collation)) in
      ap looked (first_are_sought under key range (entries_of_rows (columns_in columns) rows) (omega (arith, le, many)) are.whole are.rising)
      ∙ (ap (flat_map (λ rowid. rows_at rowid rows)) (of_sorted int_cmp int_cmp_total exact_signed (entry_cmp under) entry_rowid (is_sought under key range) (map (indexed (columns_in columns)) rows))
      ∙ (ap (λ es. looked (map entry_rowid es)) (chosen_through (is_sought under key range) (indexed (columns_in columns)) rows)
      ∙ (ap looked (each_through entry_rowid (indexed (columns_in columns)) (λ row. row.0) (λ row. ends_with (map (λ column. slice_index_or row.1 column.0 Null) (columns_in columns)) row.0) (filter test rows))
      ∙ (ap (flat_map (λ rowid. rows_at rowid rows)) (sorted_already (filter test rows) (chosen_ascend test rows ascend))
      ∙ looked_up rows (filter test rows) (all_chosen (λ (row : TableRow). rows_at row.0 rows ≡ row ∷ []) test rows (each_found rows ascend))))))
