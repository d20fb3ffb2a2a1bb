-- What inserting rows one after another comes to, each with its entries.
use Rattle.std.proofs.Common.{◌≡◌, ◌⊎◌, inl, inr, refl, sym, ap, subst, ◌∙◌, ◌≤◌, ◌<◌, ◌-◌, ℕ, ℤ, true, List, [], ◌∷◌, ◌++◌, length, map, take, drop, slice_index_or, Option, Some, None, Ok, Err, arith}
use Rattle.std.specs.Prelude.{Result, IsErrAnd, MatchResult, ⊤}
use Rattle.std.specs.FinMap.Entries.{find, put}
use Rattle.std.specs.Ordering.{int_cmp}
use Rattle.sqlval.specs.Faults.{IsOutside}
use Rattle.sqlval.specs.PageSizes.{IsPageSize}
use Rattle.sqlval.specs.Refusals.{Answer, Refusal, ◌then◌, refusal_of}
use Rattle.sqlval.specs.declared.fault.Fault.{Fault}
use Rattle.sqlval.specs.declared.value.Value.{Value}
use Rattle.tree_leaf.specs.Leaf.{Entry}
use Rattle.pages.specs.Calls.{IsOutsideOrFull}
use Rattle.pages.specs.Map.{PageMap}
use Rattle.tree_page.specs.Cells.{Pairwise}
use Rattle.tree_table.specs.Calls.{FindsLast}
use Rattle.tree_table.specs.Rows as tree
use Rattle.db_layout.specs.Layout.{Owner}
use Rattle.catalog.specs.Listed.{shape_of, with_rows}
use Rattle.catalog.specs.Rows.{are_rows}
use Rattle.catalog.specs.declared.tables.RowShape.{RowShape}
use Rattle.catalog.specs.declared.tables.Table.{Table}
use Rattle.catalog.specs.declared.tables.TableRow as stored
use Rattle.row_scan.specs.Rows.{IsRow, TableRow}
use Rattle.row_change.specs.Demands.{admitted, with_own_rowid}
use Rattle.row_change.specs.Giving.{NeedsNoLast, Serves}
use Rattle.row_change.specs.Inserting.{last_rowid, row_added, rows_inserted}
use Rattle.row_change.specs.NewRows.{row_of}
use Rattle.row_change.specs.Trees.{IsPutIn, PutsRow, row_put}
use Rattle.row_change.proofs.Rising.{fit_rows_rise}
use Rattle.index_entries.specs.Entries.{AreApart}
use Rattle.index_entries.specs.Keeping.{row_in}
use Rattle.db_write.specs.Changing.{AreInserted, HoldsFitRows, InsertsInTrees, IsRefusedInsert}
use Rattle.db_write.specs.OneRow.{FindsLastFor, InsertsAfter, InsertsFrom, InsertsOneRow, IsRefusedAs, IsRowInserted, last_with, row_inserted}
use Rattle.db_write.specs.Turning.{AddsRowToIndexes, HaveAlone, IsRowRefused}
use Rattle.db_write.proofs.Among.{keeps_all, keeps_then, rows_tree}
use Rattle.db_write.proofs.Clashing.{alone_same, clash_refused, in_turn, passes, where_alone}
use Rattle.db_write.proofs.Looping.{first_of, none_left}
use Rattle.db_write.proofs.Owned.{RowsStand, fit_apart, indexes_stand, rows_among, same_now, table_holds}
use Rattle.db_write.proofs.PutRows.{last_of_put, own_free, put_shuffles}
use Rattle.db_write.proofs.Shuffling.{Shuffles, shuffled_apart, shuffled_entries}
use Rattle.db_write.proofs.Widths.{some_storable, wide_among}

-- ---- the last rowid

last_same : (shape : RowShape) (entries : List Entry) (rows : List TableRow) → Pairwise (IsRow shape) entries rows → tree.last_rowid entries ≡ last_rowid rows
last_same shape [] [] each = refl
last_same shape [] (row ∷ rows) each = absurd each
last_same shape (entry ∷ entries) [] each = absurd each
last_same shape (entry ∷ []) (row ∷ []) each = ap (λ (n : ℤ). Some n) each.0.rowid
last_same shape (entry ∷ []) (row ∷ next ∷ rows) each = absurd each.1
last_same shape (entry ∷ other ∷ entries) (row ∷ []) each = absurd each.1
last_same shape (entry ∷ other ∷ entries) (row ∷ next ∷ rows) each = last_same shape (other ∷ entries) (next ∷ rows) each.1

-- ---- the last rowid of a row given

-- the last rowid serves as such
served : (table : Table) (places : List (Option ℕ)) (given : List Value) (last : Option ℤ) (rows : List TableRow) → last ≡ last_rowid rows → Serves table places given last rows
served table places given last rows at = ap (λ (l : Option ℤ). row_added table places l given) at

module _ (old : PageMap) (size : ℕ) (table : Table) (places : List (Option ℕ)) (given : List Value) where
  pub none_needed : NeedsNoLast table places given → FindsLastFor old size table places given (Ok None)
  none_needed needs schema before after rows sized is_root among = needs None (last_rowid rows)

  pub last_needed : (result : Result (Option ℤ) Fault) → FindsLast old size table.root result → FindsLastFor old size table places given result
  last_needed (Ok last) finds schema before after rows sized is_root among =
      let s = rows_among old size schema before table rows after among sized is_root in
      served table places given last rows (finds s.entries s.used s.stands.free_are.whole s.stands.tree ∙ last_same (shape_of table) s.entries rows s.each)
  last_needed (Err fault) finds schema before after rows sized is_root among =
      let s = rows_among old size schema before table rows after among sized is_root in
      finds s.entries s.used s.stands.free_are.whole s.stands.tree

-- ---- one row

abbrev not_given : Refusal → Answer TableRow
not_given r = Err r

module _ (old mid : PageMap) (size : ℕ) (table : Table) (places : List (Option ℕ)) (given : List Value) (last : Option ℤ) where
  -- it isn't put
  pub none_put : (fault : Fault) (result : Result stored.TableRow Fault) → IsErrAnd result (λ e. e ≡ fault) → PutsRow old mid size table.root table places given last (Err fault) → InsertsAfter old mid size table places given last result
  none_put fault (Ok row) same puts = absurd same
  none_put fault (Err e) same puts = λ schema before after rows sized is_root among fit at. (
      let s = rows_among old size schema before table rows after among sized is_root in
      subst (λ (f : Fault). IsRefusedAs (row_inserted table places rows given) table f) (sym same) (by rows at (puts rows s.entries s.used s.free s.stands s.each at)))
    where
      by : (rows : List TableRow) → Serves table places given last rows → IsOutsideOrFull fault ⊎ (row_put table places rows given ≡ Err (refusal_of fault)) → IsRefusedAs (row_inserted table places rows given) table fault
      by rows at (inl outside) = inl outside
      by rows at (inr is) = inr (inl (in_turn table rows (row_added table places (last_rowid rows) given) ∙ ap (λ (a : Answer TableRow). a then where_alone table rows) is))

  -- it is put, and its entries are next
  module _ (row : stored.TableRow) (puts : PutsRow old mid size table.root table places given last (Ok row)) (new : PageMap) where
    module _ (schema : Owner) (before after : List Owner) (rows : List TableRow) (sized : IsPageSize size) (is_root : schema.root ≡ 1) (s : RowsStand old size schema before table rows after)
        (fit : are_rows (with_rows table rows) ≡ true) (at : Serves table places given last rows) where
      come : IsPutIn old mid size table.root table places given rows s.used s.free (row_of row)
      come = puts rows s.entries s.used s.free s.stands s.each at

      abbrev rows_now : List TableRow
      rows_now = put int_cmp row.rowid row.values.items rows

      free : find int_cmp row.rowid rows ≡ None
      free = own_free (row_added table places (last_rowid rows) given) rows (row_of row) come.answer

      fits : are_rows (with_rows table rows_now) ≡ true
      fits = come.fit fit

      come_apart : AreApart rows_now
      come_apart = fit_apart table rows_now fits

      -- in another order they are the rows that there were, and then the row
      came : Shuffles rows (row_of row ∷ []) rows_now
      came = put_shuffles (row_of row) rows free

      abbrev front : List Owner
      front = before ++ rows_tree table.root come.entries come.becomes.now_used ∷ []

      added : (result : Result ⊤ Fault) → AddsRowToIndexes mid new size table.indexes (row_in row) result
          → MatchResult result (λ done. HaveAlone mid new size schema front table.indexes (row_of row) rows (rows ++ row_of row ∷ []) after) (IsRowRefused table.indexes (row_of row) rows)
      added result adds = adds rows (shuffled_apart came come_apart) schema front after sized is_root (indexes_stand old mid size schema before table rows after s come.entries come.becomes)

      answered : (a : Answer TableRow) → where_alone table rows (row_of row) ≡ a → row_inserted table places rows given ≡ a
      answered a is = in_turn table rows (row_added table places (last_rowid rows) given) ∙ (ap (λ (b : Answer TableRow). b then where_alone table rows) come.answer ∙ is)

      inserted : HaveAlone mid new size schema front table.indexes (row_of row) rows (rows ++ row_of row ∷ []) after → IsRowInserted old new size schema before table places given rows after (row_of row)
      inserted have = record {
        answer = answered (Ok (row_of row)) (passes table (row_of row) rows have.alone);
        hold = record {
          holds = table_holds old mid size schema before table rows after s come.entries come.becomes new rows_now come.each
              (same_now mid new size schema front table.indexes (rows ++ row_of row ∷ []) rows_now after (λ columns. sym (shuffled_entries columns came come_apart)) have.now);
          fit = fits;
        };
      }

      refused : (fault : Fault) → IsRowRefused table.indexes (row_of row) rows fault → IsRefusedAs (row_inserted table places rows given) table fault
      refused fault (inl outside) = inl outside
      refused fault (inr (inl clash)) =
          inr (inl (answered (Err (refusal_of fault)) (clash_refused table (row_of row) rows clash.1 ∙ ap (λ (f : Fault). not_given (refusal_of f)) (sym clash.0))))
      refused fault (inr (inr long)) = inr (inr (long.0, wide_among table rows_now fits (λ all. long.1 (some_storable table.indexes came all))))

    pub row_stopped : (fault : Fault) (result : Result stored.TableRow Fault) → IsErrAnd result (λ e. e ≡ fault) → AddsRowToIndexes mid new size table.indexes (row_in row) (Err fault) → InsertsAfter old new size table places given last result
    row_stopped fault (Ok other) same adds = absurd same
    row_stopped fault (Err e) same adds = λ schema before after rows sized is_root among fit at. (
        let s = rows_among old size schema before table rows after among sized is_root in
        subst (λ (f : Fault). IsRefusedAs (row_inserted table places rows given) table f) (sym same)
        (refused schema before after rows sized is_root s fit at fault (added schema before after rows sized is_root s fit at (Err fault) adds)))

    pub row_come : AddsRowToIndexes mid new size table.indexes (row_in row) (Ok tt) → InsertsAfter old new size table places given last (Ok row)
    row_come adds schema before after rows sized is_root among fit at =
        let s = rows_among old size schema before table rows after among sized is_root in
        inserted schema before after rows sized is_root s fit at (added schema before after rows sized is_root s fit at (Ok tt) adds)

-- ---- rows one after another

abbrev Rest : Table → List (Option ℕ) → List TableRow → List (List Value) → TableRow → Answer (List TableRow)
Rest table places rows more row = rows_inserted table places (put int_cmp row.0 row.1 rows) more

one_and_more : (table : Table) (places : List (Option ℕ)) (rows : List TableRow) (given : List Value) (more : List (List Value))
    → rows_inserted table places rows (given ∷ more) ≡ (row_inserted table places rows given then Rest table places rows more)
one_and_more table places rows given more = by (row_added table places (last_rowid rows) given)
  where
    by : (a : Answer TableRow) → (a then λ row. admitted table rows row then Rest table places rows more) ≡ ((a then λ row. admitted table rows row) then Rest table places rows more)
    by (Ok row) = refl
    by (Err r) = refl

pub inserts_none : (pages : PageMap) (size : ℕ) (table : Table) (places : List (Option ℕ)) (last : Option ℤ) → InsertsFrom pages pages size table places [] last (Ok tt)
inserts_none pages size table places last schema before after rows sized is_root among fit at =
    record { now = rows; answer = refl; hold = record { holds = record { among = among; header = keeps_all pages; longer = omega arith }; fit = fit } }

-- what holds since then holds since before
pub since_before : (old mid new : PageMap) (size : ℕ) (schema : Owner) (before : List Owner) (table : Table) (first rows : List TableRow) (after : List Owner)
    → HoldsFitRows old mid size schema before table first after → HoldsFitRows mid new size schema before table rows after → HoldsFitRows old new size schema before table rows after
since_before old mid new size schema before table first rows after one more = record {
  holds = record {
    among = more.holds.among;
    header = keeps_then old mid new one.holds.header more.holds.header;
    longer = (let a = one.holds.longer in let b = more.holds.longer in omega (arith, a, b));
  };
  fit = more.fit;
}

-- a row that is inserted has a rowid that none of the rows had
inserted_free : (table : Table) (places : List (Option ℕ)) (rows : List TableRow) (given : List Value) (row : TableRow) → row_inserted table places rows given ≡ Ok row → find int_cmp row.0 rows ≡ None
inserted_free table places rows given row answer =
    own_free (row_added table places (last_rowid rows) given) rows row
    (alone_same table rows (row_added table places (last_rowid rows) given then λ r. with_own_rowid rows r) row (sym (in_turn table rows (row_added table places (last_rowid rows) given)) ∙ answer))

module _ (old mid : PageMap) (size : ℕ) (table : Table) (places : List (Option ℕ)) (given : List Value) (more : List (List Value)) (last : Option ℤ) where
  pub inserts_more : (new : PageMap) (row : stored.TableRow) (result : Result ⊤ Fault) → InsertsAfter old mid size table places given last (Ok row) → InsertsFrom mid new size table places more (last_with last row.rowid) result
      → InsertsFrom old new size table places (given ∷ more) last result
  inserts_more new row result first next schema before after rows sized is_root among fit at =
      by result (next schema before after (put int_cmp row.rowid row.values.items rows) sized is_root one.hold.holds.among one.hold.fit is)
    where
      one : IsRowInserted old mid size schema before table places given rows after (row_of row)
      one = first schema before after rows sized is_root among fit (served table places given last rows at)

      is : last_with last row.rowid ≡ last_rowid (put int_cmp row.rowid row.values.items rows)
      is =
          ap (λ (l : Option ℤ). last_with l row.rowid) at
          ∙ last_of_put (row_of row) rows (fit_rows_rise (with_rows table rows) fit) (inserted_free table places rows given (row_of row) one.answer)

      same : rows_inserted table places rows (given ∷ more) ≡ rows_inserted table places (put int_cmp row.rowid row.values.items rows) more
      same = one_and_more table places rows given more ∙ ap (λ (a : Answer TableRow). a then Rest table places rows more) one.answer

      by : (r : Result ⊤ Fault) → MatchResult r (λ done. AreInserted mid new size schema before table places more (put int_cmp row.rowid row.values.items rows) after) (IsRefusedInsert table places more (put int_cmp row.rowid row.values.items rows))
          → MatchResult r (λ done. AreInserted old new size schema before table places (given ∷ more) rows after) (IsRefusedInsert table places (given ∷ more) rows)
      by (Ok done) are = record { now = are.now; answer = same ∙ are.answer; hold = since_before old mid new size schema before table (put int_cmp row.rowid row.values.items rows) are.now after one.hold are.hold }
      by (Err fault) (inl outside) = inl outside
      by (Err fault) (inr (inl is)) = inr (inl (same ∙ is))
      by (Err fault) (inr (inr wide)) = inr (inr wide)

  pub inserts_stop : (fault : Fault) (result : Result ⊤ Fault) → IsErrAnd result (λ e. e ≡ fault) → InsertsAfter old mid size table places given last (Err fault) → InsertsFrom old mid size table places (given ∷ more) last result
  inserts_stop fault (Ok done) same first = absurd same
  inserts_stop fault (Err e) same first = λ schema before after rows sized is_root among fit at.
      subst (λ (f : Fault). IsRefusedInsert table places (given ∷ more) rows f) (sym same) (by rows (first schema before after rows sized is_root among fit (served table places given last rows at)))
    where
      by : (rows : List TableRow) → IsRefusedAs (row_inserted table places rows given) table fault → IsRefusedInsert table places (given ∷ more) rows fault
      by rows (inl outside) = inl outside
      by rows (inr (inl is)) = inr (inl (one_and_more table places rows given more ∙ ap (λ (a : Answer TableRow). a then Rest table places rows more) is))
      by rows (inr (inr wide)) = inr (inr wide)

-- the first row given and the others
pub first_given : {R : Type 0} (f : R → List Value) (left : List R) (given : R) → 1 ≤ length left → given ≡ slice_index_or left 0 given → f given ∷ map f (take (length left - 1) (drop 1 left)) ≡ map f left
first_given f left given some is = ap (map f) (first_of left given some is)

pub none_given : {R : Type 0} (f : R → List Value) (left : List R) → length left < 1 → [] ≡ map f left
none_given f left few = ap (map f) (none_left left few)

-- ---- all of a statement

module _ (old : PageMap) (size : ℕ) (table : Table) (places : List (Option ℕ)) (given : List (List Value)) where
  -- the last rowid isn't found
  pub no_last : (new : PageMap) (fault : Fault) (result : Result ⊤ Fault) → IsErrAnd result (λ e. e ≡ fault) → FindsLast old size table.root (Err fault) → InsertsInTrees old new size table places given result
  no_last new fault (Ok done) same finds = absurd same
  no_last new fault (Err e) same finds = λ schema before after rows sized is_root among fit. (
      let s = rows_among old size schema before table rows after among sized is_root in
      inl (inl (subst IsOutside (sym same) (finds s.entries s.used s.stands.free_are.whole s.stands.tree))))

  pub inserted_from : (new : PageMap) (last : Option ℤ) (result : Result ⊤ Fault) → FindsLast old size table.root (Ok last) → InsertsFrom old new size table places given last result → InsertsInTrees old new size table places given result
  inserted_from new last result finds inserts schema before after rows sized is_root among fit =
      let s = rows_among old size schema before table rows after among sized is_root in
      inserts schema before after rows sized is_root among fit (finds s.entries s.used s.stands.free_are.whole s.stands.tree ∙ last_same (shape_of table) s.entries rows s.each)

-- ---- one row alone

module _ (old : PageMap) (size : ℕ) (table : Table) (places : List (Option ℕ)) (given : List Value) where
  -- the last rowid isn't found
  pub last_unread : (new : PageMap) (fault : Fault) (result : Result stored.TableRow Fault) → IsErrAnd result (λ e. e ≡ fault) → FindsLastFor old size table places given (Err fault) → InsertsOneRow old new size table places given result
  last_unread new fault (Ok row) same finds = absurd same
  last_unread new fault (Err e) same finds = λ schema before after rows sized is_root among fit. inl (inl (subst IsOutside (sym same) (finds schema before after rows sized is_root among)))

  pub inserted_last : (new : PageMap) (last : Option ℤ) (result : Result stored.TableRow Fault) → FindsLastFor old size table places given (Ok last) → InsertsAfter old new size table places given last result → InsertsOneRow old new size table places given result
  inserted_last new last result finds inserts schema before after rows sized is_root among fit =
      inserts schema before after rows sized is_root among fit (finds schema before after rows sized is_root among)

  -- it is the only one of a statement
  pub only_come : (new : PageMap) (row : stored.TableRow) → InsertsOneRow old new size table places given (Ok row) → InsertsInTrees old new size table places (given ∷ []) (Ok tt)
  only_come new row inserts schema before after rows sized is_root among fit =
      let one : IsRowInserted old new size schema before table places given rows after (row_of row) = inserts schema before after rows sized is_root among fit in
      record {
        now = put int_cmp row.rowid row.values.items rows;
        answer = one_and_more table places rows given [] ∙ ap (λ (a : Answer TableRow). a then Rest table places rows []) one.answer;
        hold = one.hold;
      }

  pub only_stopped : (new : PageMap) (fault : Fault) (result : Result ⊤ Fault) → IsErrAnd result (λ e. e ≡ fault) → InsertsOneRow old new size table places given (Err fault) → InsertsInTrees old new size table places (given ∷ []) result
  only_stopped new fault (Ok done) same inserts = absurd same
  only_stopped new fault (Err e) same inserts = λ schema before after rows sized is_root among fit.
      subst (λ (f : Fault). IsRefusedInsert table places (given ∷ []) rows f) (sym same) (by rows (inserts schema before after rows sized is_root among fit))
    where
      by : (rows : List TableRow) → IsRefusedAs (row_inserted table places rows given) table fault → IsRefusedInsert table places (given ∷ []) rows fault
      by rows (inl outside) = inl outside
      by rows (inr (inl is)) = inr (inl (one_and_more table places rows given [] ∙ ap (λ (a : Answer TableRow). a then Rest table places rows []) is))
      by rows (inr (inr wide)) = inr (inr wide)
