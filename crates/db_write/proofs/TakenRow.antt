-- What taking one row out of a table comes to, with its entries; and where a rowid's row stands among those that are read.
use Rattle.std.proofs.Common.{◌≡◌, refl, sym, ap, subst, ◌∙◌, ◌<ℤ◌, ℕ, ℤ, Bool, true, false, cond, not, if◌then◌else◌, List, [], ◌∷◌, ◌++◌, map, Option, Some, None, Ok, Err, arith}
use Rattle.std.proofs.lemmas.Int.{ints}
use Rattle.std.specs.Prelude.{Result, IsErrAnd, MatchResult, int_lt, ⊤}
use Rattle.std.specs.FinMap.Entries.{find}
use Rattle.std.specs.Ordering.{eq_by_cmp, int_cmp, int_eq, is_eq}
use Rattle.std.specs.declared.cmp.Ordering.TheVariants.{Equal, Greater, Less}
use Rattle.sqlval.specs.Faults.{IsOutside}
use Rattle.sqlval.specs.PageSizes.{IsPageSize}
use Rattle.sqlval.specs.declared.fault.Fault.{Fault}
use Rattle.sqlval.specs.declared.value.Value.{Value}
use Rattle.tree_leaf.specs.Leaf.{Entry}
use Rattle.pages.specs.Calls.{IsOutsideOrFull}
use Rattle.pages.specs.Map.{PageMap}
use Rattle.tree_page.specs.Cells.{Pairwise}
use Rattle.tree_table.specs.Calls.{BecomesRows, RemovesRow}
use Rattle.tree_table.specs.Rows.{payload_at, without_row}
use Rattle.tree_table.proofs.Orders.{less_not}
use Rattle.db_layout.specs.Layout.{Owner}
use Rattle.catalog.specs.Listed.{shape_of, with_rows}
use Rattle.catalog.specs.Rows.{are_rows}
use Rattle.catalog.specs.declared.tables.RowShape.{RowShape}
use Rattle.catalog.specs.declared.tables.Table.{Table}
use Rattle.query_names.specs.declared.queries.BoundSource.{BoundSource}
use Rattle.query_terms.specs.Values.{Row}
use Rattle.row_scan.specs.Rows.{IsRow, TableRow}
use Rattle.row_scan.specs.Sources.{LoadsRowsAt, as_source, rows_at}
use Rattle.row_change.proofs.Rising.{Climbs, Rises, fit_rows_rise}
use Rattle.row_change.proofs.Taken.{fit_still}
use Rattle.index_entries.specs.Entries.{AreApart}
use Rattle.db_write.specs.Changing.{HoldsFitRows}
use Rattle.db_write.specs.OneRow.{TakesOneRow}
use Rattle.db_write.specs.Reading.{FindsOneRow, only_at}
use Rattle.db_write.specs.Turning.{HaveEntries, HaveNow, TakesFromIndexes}
use Rattle.db_write.proofs.Among.{rows_tree}
use Rattle.db_write.proofs.Owned.{RowsStand, fit_apart, has_rows, indexes_stand, rows_among, same_entries, table_holds}
use Rattle.db_write.proofs.PutRows.{climbs_to, lower, one_shuffles, others_left, rest_rises}
use Rattle.db_write.proofs.Shuffling.{Shuffles, shuffled_apart, shuffled_entries}

-- ---- the entry of a row

is_same : (a b : ℤ) → a ≡ b → int_eq a b ≡ true
is_same a b e = grind (arith, ints, e)

-- the entry of a row among others is there
pub entry_there : (shape : RowShape) (entries : List Entry) (front : List TableRow) (row : TableRow) (back : List TableRow) → Pairwise (IsRow shape) entries (front ++ row ∷ back) → payload_at row.0 entries ≡ None → ⊥
entry_there shape [] [] row back each none = absurd each
entry_there shape [] (r ∷ front) row back each none = absurd each
entry_there shape (entry ∷ entries) [] row back each none = some (subst (λ (b : Bool). (if b then Some entry.payload else payload_at row.0 entries) ≡ None) (is_same entry.rowid row.0 each.0.rowid) none)
  where
    some : Some entry.payload ≡ None → ⊥
    some e = absurd cc
entry_there shape (entry ∷ entries) (r ∷ front) row back each none = by (entry_there shape entries front row back each.1) (int_eq entry.rowid row.0) none
  where
    some : Some entry.payload ≡ None → ⊥
    some e = absurd cc

    by : (payload_at row.0 entries ≡ None → ⊥) → (b : Bool) → (if b then Some entry.payload else payload_at row.0 entries) ≡ None → ⊥
    by later true e = some e
    by later false e = later e

-- without it the entries are those of the others
pub entries_left : (shape : RowShape) (entries : List Entry) (front : List TableRow) (row : TableRow) (back : List TableRow) → Pairwise (IsRow shape) entries (front ++ row ∷ back) → Rises (front ++ row ∷ back)
    → Pairwise (IsRow shape) (without_row row.0 entries) (front ++ back)
entries_left shape [] [] row back each rises = absurd each
entries_left shape [] (r ∷ front) row back each rises = absurd each
entries_left shape (entry ∷ entries) [] row back each rises =
    subst (λ (b : Bool). Pairwise (IsRow shape) (if b then entries else entry ∷ without_row row.0 entries) back) (sym (is_same entry.rowid row.0 each.0.rowid)) each.1
entries_left shape (entry ∷ entries) (r ∷ front) row back each rises =
    subst (λ (b : Bool). Pairwise (IsRow shape) (if b then entries else entry ∷ without_row row.0 entries) (r ∷ front ++ back)) (sym (less_not entry.rowid row.0 below))
    (each.0, entries_left shape entries front row back each.1 (rest_rises r (front ++ row ∷ back) rises))
  where
    below : entry.rowid <ℤ row.0
    below = subst (λ (n : ℤ). n <ℤ row.0) (sym each.0.rowid) (climbs_to r.0 front row back rises)

-- the table may hold the others
pub others_fit : (table : Table) (front : List TableRow) (row : TableRow) (back : List TableRow) → are_rows (with_rows table (front ++ row ∷ back)) ≡ true → are_rows (with_rows table (front ++ back)) ≡ true
others_fit table front row back fit =
    subst (λ (rows : List TableRow). are_rows (with_rows table rows) ≡ true) (others_left front row back (fit_rows_rise (with_rows table (front ++ row ∷ back)) fit))
    (fit_still (λ (r : TableRow). not (eq_by_cmp int_cmp row.0 r.0)) table (front ++ row ∷ back) fit)

-- ---- a row goes

module _ (old mid : PageMap) (size : ℕ) (table : Table) (row : TableRow) where
  -- it isn't taken out of the table's tree
  pub row_untaken : (fault : Fault) (result : Result ⊤ Fault) → IsErrAnd result (λ e. e ≡ fault) → RemovesRow old mid size table.root row.0 (Err fault) → TakesOneRow old mid size table row result
  row_untaken fault (Ok done) same removes = absurd same
  row_untaken fault (Err e) same removes = λ schema before after front back sized is_root among fit. (
      let s = rows_among old size schema before table (front ++ row ∷ back) after among sized is_root in
      subst IsOutsideOrFull (sym same) (removes s.entries s.used s.free s.stands))

  -- it is, and its entries are next
  module _ (new : PageMap) (there : Bool) (removes : RemovesRow old mid size table.root row.0 (Ok there)) (schema : Owner) (before after : List Owner) (front back : List TableRow)
      (sized : IsPageSize size) (is_root : schema.root ≡ 1) (s : RowsStand old size schema before table (front ++ row ∷ back) after) (fit : are_rows (with_rows table (front ++ row ∷ back)) ≡ true) where
    becomes_by : (b : Bool) → RemovesRow old mid size table.root row.0 (Ok b) → BecomesRows old mid size table.root (without_row row.0 s.entries) s.used s.free
    becomes_by true goes = (goes s.entries s.used s.free s.stands).1.0
    becomes_by false goes = absurd (entry_there (shape_of table) s.entries front row back s.each (goes s.entries s.used s.free s.stands).0)

    becomes : BecomesRows old mid size table.root (without_row row.0 s.entries) s.used s.free
    becomes = becomes_by there removes

    apart : AreApart (front ++ row ∷ back)
    apart = fit_apart table (front ++ row ∷ back) fit

    stood : Shuffles (front ++ back) (row ∷ []) (front ++ row ∷ back)
    stood = one_shuffles front row back

    abbrev first : List Owner
    first = before ++ rows_tree table.root (without_row row.0 s.entries) becomes.now_used ∷ []

    stand : HaveEntries mid size schema first table.indexes ((front ++ back) ++ row ∷ []) after
    stand =
        same_entries mid size schema first table.indexes (front ++ row ∷ back) ((front ++ back) ++ row ∷ []) after (λ columns. shuffled_entries columns stood apart)
        (indexes_stand old mid size schema before table (front ++ row ∷ back) after s (without_row row.0 s.entries) becomes)

    left : (result : Result ⊤ Fault) → MatchResult result (λ done. HaveNow mid new size schema first table.indexes (front ++ back) after) IsOutsideOrFull
        → MatchResult result (λ done. HoldsFitRows old new size schema before table (front ++ back) after) IsOutsideOrFull
    left (Ok done) have = record {
      holds = table_holds old mid size schema before table (front ++ row ∷ back) after s (without_row row.0 s.entries) becomes new (front ++ back)
          (entries_left (shape_of table) s.entries front row back s.each (fit_rows_rise (with_rows table (front ++ row ∷ back)) fit)) have;
      fit = others_fit table front row back fit;
    }
    left (Err fault) why = why

    goes : (result : Result ⊤ Fault) → TakesFromIndexes mid new size table.indexes (row ∷ []) result → MatchResult result (λ done. HoldsFitRows old new size schema before table (front ++ back) after) IsOutsideOrFull
    goes result takes = left result (takes (front ++ back) (shuffled_apart stood apart) schema first after sized is_root stand)

  pub row_taken : (new : PageMap) (there : Bool) (result : Result ⊤ Fault) → RemovesRow old mid size table.root row.0 (Ok there) → TakesFromIndexes mid new size table.indexes (row ∷ []) result → TakesOneRow old new size table row result
  row_taken new there result removes takes schema before after front back sized is_root among fit =
      let s = rows_among old size schema before table (front ++ row ∷ back) after among sized is_root in
      goes new there removes schema before after front back sized is_root s fit result takes

-- ---- the row of a rowid

-- the test of a key is that of the rowids
tested : (a b : ℤ) → is_eq (int_cmp a b) ≡ int_eq b a
tested a b = by (int_lt a b) (int_lt b a) refl refl
  where
    by : (t u : Bool) → int_lt a b ≡ t → int_lt b a ≡ u → is_eq (cond t Less (cond u Greater Equal)) ≡ int_eq b a
    by true u e f = grind (arith, ints, e)
    by false true e f = grind (arith, ints, f)
    by false false e f = grind (arith, ints, e, f)

-- rows above a rowid don't have it
none_at : (rowid : ℤ) (rows : List TableRow) → Climbs rowid rows → rows_at rowid rows ≡ []
none_at rowid [] climb = refl
none_at rowid (r ∷ rows) climb =
    ap (λ (b : Bool). cond b (r ∷ rows_at rowid rows) (rows_at rowid rows)) (not_it climb.0) ∙ none_at rowid rows (lower rowid r.0 rows climb.0 climb.1)
  where
    not_it : rowid <ℤ r.0 → int_eq r.0 rowid ≡ false
    not_it lt = grind (arith, ints, lt)

abbrev only : ℤ → Option (List Value) → List TableRow
only rowid found = elim found [ None ↦ [] | Some values ↦ (rowid, values) ∷ [] ]

pub one_at : (rowid : ℤ) (rows : List TableRow) → Rises rows → rows_at rowid rows ≡ only_at rowid rows
one_at rowid [] rises = refl
one_at rowid (r ∷ rows) rises = by (one_at rowid rows (rest_rises r rows rises)) (int_eq r.0 rowid) refl
  where
    is_it : int_eq r.0 rowid ≡ true → r.0 ≡ rowid
    is_it e = grind (arith, ints, e)

    by : rows_at rowid rows ≡ only_at rowid rows → (b : Bool) → int_eq r.0 rowid ≡ b → cond b (r ∷ rows_at rowid rows) (rows_at rowid rows) ≡ only rowid (cond (is_eq (int_cmp rowid r.0)) (Some r.1) (find int_cmp rowid rows))
    by later true e =
        ap (λ (rest : List TableRow). r ∷ rest) (none_at rowid rows (subst (λ (n : ℤ). Climbs n rows) (is_it e) rises))
        ∙ (ap (λ (n : ℤ). (n, r.1) ∷ []) (is_it e) ∙ sym (ap (λ (b : Bool). only rowid (cond b (Some r.1) (find int_cmp rowid rows))) (tested rowid r.0 ∙ e)))
    by later false e = later ∙ sym (ap (λ (b : Bool). only rowid (cond b (Some r.1) (find int_cmp rowid rows))) (tested rowid r.0 ∙ e))

-- what a call that reads by a rowid answers
pub found_at : (pages : PageMap) (size : ℕ) (table : Table) (source : BoundSource) (rowid m : ℤ) (result : Result (List Row) Fault) → source ≡ record { root = table.root; shape = shape_of table } → m ≡ rowid
    → LoadsRowsAt pages size source m result → FindsOneRow pages size table rowid result
found_at pages size table source rowid m result is same loads schema before after rows sized is_root among fit = by result found
  where
    s : RowsStand pages size schema before table rows after
    s = rows_among pages size schema before table rows after among sized is_root

    reads : LoadsRowsAt pages size (record { root = table.root; shape = shape_of table }) rowid result
    reads = subst (λ (n : ℤ). LoadsRowsAt pages size (record { root = table.root; shape = shape_of table }) n result) same (subst (λ (from : BoundSource). LoadsRowsAt pages size from m result) is loads)

    found : MatchResult result (λ them. them ≡ map as_source (rows_at rowid rows)) IsOutside
    found = reads rows s.stands.free_are.whole (has_rows pages size schema before table rows after s)

    by : (r : Result (List Row) Fault) → MatchResult r (λ them. them ≡ map as_source (rows_at rowid rows)) IsOutside → MatchResult r (λ them. them ≡ map as_source (only_at rowid rows)) IsOutside
    by (Ok them) are = are ∙ ap (map as_source) (one_at rowid rows (fit_rows_rise (with_rows table rows) fit))
    by (Err fault) outside = outside
