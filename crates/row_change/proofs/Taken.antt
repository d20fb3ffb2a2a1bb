-- Rows are taken out of a tree one after another.
use Rattle.std.proofs.Common.{◌≡◌, inl, inr, refl, sym, ap, subst, ◌∙◌, ◌<◌, ◌≤◌, ◌+◌, ◌<ℤ◌, ℕ, ℤ, Bool, true, false, not, cond, filter, List, [], ◌∷◌, ◌++◌, length, map, take, slice_index_or, Option, Some, None, if◌then◌else◌, Result, Ok, Err}
use Rattle.std.specs.Prelude.{IsErrAnd, MatchResult, ⊤}
use Rattle.std.specs.Global.{Vec}
use Rattle.std.specs.List.{list_all}
use Rattle.std.specs.Ordering.{int_cmp}
use Rattle.std.proofs.lemmas.List.{map_more, take_all, take_more}
use Rattle.sqlval.specs.Lists.{is_rising}
use Rattle.sqlval.specs.Refusals.{Answer, ◌then◌, refusal_of}
use Rattle.sqlval.specs.declared.fault.Fault.{Fault}
use Rattle.sqlval.specs.declared.fault.Fault.TheVariants.{Memory}
use Rattle.tree_leaf.specs.Leaf.{Entry}
use Rattle.pages.specs.Calls.{IsOutsideOrFull}
use Rattle.pages.specs.Map.{PageMap}
use Rattle.tree_page.specs.Cells.{Pairwise}
use Rattle.tree_table.specs.Calls.{BecomesRows, ChangesRows, Stands}
use Rattle.tree_table.specs.Rows.{without_row, with_change, with_changes}
use Rattle.tree_table.proofs.Orders.{less_not, same_or_other}
use Rattle.catalog.specs.Listed.{with_rows}
use Rattle.catalog.specs.Rows.{are_rows, as_row, is_row, rowid_number}
use Rattle.catalog.specs.declared.tables.RowShape.{RowShape}
use Rattle.catalog.specs.declared.tables.Table.{Table}
use Rattle.query_names.specs.declared.queries.BoundSource.{BoundSource}
use Rattle.query_terms.specs.Outcome.{IsRefusedBy}
use Rattle.query_terms.specs.Rows.{row_at}
use Rattle.query_terms.specs.Terms.{Term}
use Rattle.query_terms.specs.Values.{Row}
use Rattle.row_scan.specs.Rows.{IsRow, TableRow}
use Rattle.row_scan.specs.Sources.{as_source}
use Rattle.row_scan.proofs.RowOrder.{both_true}
use Rattle.row_scan.proofs.TreeOrder.{tree_rises}
use Rattle.row_change.specs.Choosing.{chosen, is_chosen, rows_left}
use Rattle.row_change.specs.Meaning.{AreEnough}
use Rattle.tree_table.specs.declared.changing.RowChange.{RowChange}
use Rattle.row_change.specs.Taking.{AreTakenOut, IsTakeRefusal, MakesRows, TakesRows, TakesThese, without_rows}
use Rattle.row_change.proofs.Chosen.{chosen_and_left, chosen_refused}
use Rattle.row_change.proofs.FitRows.{rises_rising}
use Rattle.row_change.proofs.Rising.{Climbs, Rises, both, fit_rows_rise, further, rows_rise}

-- ---- several rows

without_more : (rowids : List ℤ) (rowid : ℤ) (rows : List Entry) → without_rows (rowids ++ rowid ∷ []) rows ≡ without_row rowid (without_rows rowids rows)
without_more [] rowid rows = refl
without_more (first ∷ rowids) rowid rows = without_more rowids rowid (without_row first rows)

changes_more : (changes : List RowChange) (change : RowChange) (rows : List Entry) → with_changes (changes ++ change ∷ []) rows ≡ with_change change (with_changes changes rows)
changes_more [] change rows = refl
changes_more (first ∷ changes) change rows = changes_more changes change (with_change first rows)

-- one removal more
pub removal_on : (changes : List RowChange) (change : RowChange) (rowids : List ℤ) (rows : List Entry) → change.payload ≡ None → with_changes changes rows ≡ without_rows rowids rows
    → with_changes (changes ++ change ∷ []) rows ≡ without_rows (rowids ++ change.rowid ∷ []) rows
removal_on changes change rowids rows none so =
    changes_more changes change rows ∙ by change.payload none (with_changes changes rows) ∙ ap (λ (rs : List Entry). without_row change.rowid rs) so ∙ sym (without_more rowids change.rowid rows)
  where
    by : (payload : Option (Vec ℕ)) → payload ≡ None → (rs : List Entry) → with_change (record { rowid = change.rowid; payload = payload }) rs ≡ without_row change.rowid rs
    by None e rs = refl
    by (Some payload) e rs = absurd cc

pub as_made : (old new : PageMap) (size root : ℕ) (changes : List RowChange) (rowids : List ℤ) (result : Result ⊤ Fault) → ((rows : List Entry) → with_changes changes rows ≡ without_rows rowids rows) → ChangesRows old new size root changes result
    → MakesRows old new size root (without_rows rowids) result
as_made old new size root changes rowids result are makes rows used free is = by result (makes rows used free is)
  where
    by : (r : Result ⊤ Fault) → MatchResult r (λ done. BecomesRows old new size root (with_changes changes rows) used free) IsOutsideOrFull
        → MatchResult r (λ done. BecomesRows old new size root (without_rows rowids rows) used free) IsOutsideOrFull
    by (Ok done) becomes = subst (λ (rs : List Entry). BecomesRows old new size root rs used free) (are rows) becomes
    by (Err fault) refused = refused

pub one_further : (rowids : List ℤ) (i : ℕ) (rowid d : ℤ) → i < length rowids → rowid ≡ slice_index_or rowids i d → take i rowids ++ rowid ∷ [] ≡ take (i + 1) rowids
one_further rowids i rowid d lt is = ap (λ (x : ℤ). take i rowids ++ x ∷ []) is ∙ sym (take_more rowids i d lt)

pub up_to_end : (rowids : List ℤ) (i : ℕ) → length rowids ≤ i → take i rowids ≡ rowids
up_to_end rowids i le = take_all i rowids le

-- ---- what is left

-- each rowid is greater
abbrev AreOver : ℤ → List ℤ → Type 0
AreOver low [] = ⊤
AreOver low (rowid ∷ rowids) = (low <ℤ rowid) × AreOver low rowids

lower : (low mid : ℤ) (rows : List TableRow) → low <ℤ mid → Climbs mid rows → Climbs low rows
lower low mid [] lt climb = tt
lower low mid (row ∷ rows) lt climb = (further low mid row.0 lt climb.0, climb.1)

rest_rises : (row : TableRow) (rows : List TableRow) → Climbs row.0 rows → Rises rows
rest_rises row [] climb = tt
rest_rises row (next ∷ rows) climb = climb.1

abbrev rowids_in : List TableRow → List ℤ
rowids_in rows = map (λ row. row.0) rows

module _ (p : TableRow → Bool) where
  over : (low : ℤ) (rows : List TableRow) → Climbs low rows → AreOver low (rowids_in (filter p rows))
  over low [] climb = tt
  over low (row ∷ rows) climb = by (over low rows (lower low row.0 rows climb.0 climb.1)) (p row)
    where
      by : AreOver low (rowids_in (filter p rows)) → (b : Bool) → AreOver low (rowids_in (cond b (row ∷ filter p rows) (filter p rows)))
      by rest true = (climb.0, rest)
      by rest false = rest

  climbs_still : (low : ℤ) (rows : List TableRow) → Climbs low rows → Climbs low (filter p rows)
  climbs_still low [] climb = tt
  climbs_still low (row ∷ rows) climb = by (climbs_still row.0 rows climb.1) (climbs_still low rows (lower low row.0 rows climb.0 climb.1)) (p row)
    where
      by : Climbs row.0 (filter p rows) → Climbs low (filter p rows) → (b : Bool) → Climbs low (cond b (row ∷ filter p rows) (filter p rows))
      by here below true = (climb.0, here)
      by here below false = below

  rises_still : (rows : List TableRow) → Rises rows → Rises (filter p rows)
  rises_still [] rises = tt
  rises_still (row ∷ rows) rises = by (p row)
    where
      by : (b : Bool) → Rises (cond b (row ∷ filter p rows) (filter p rows))
      by true = climbs_still row.0 rows rises
      by false = rest_rises row (filter p rows) (climbs_still row.0 rows rises)

  all_still : (f : TableRow → Bool) (rows : List TableRow) → list_all f rows ≡ true → list_all f (filter p rows) ≡ true
  all_still f [] all = refl
  all_still f (row ∷ rows) all = (let parts = both (f row) (list_all f rows) all in by parts.0 (all_still f rows parts.1) (p row))
    where
      by : f row ≡ true → list_all f (filter p rows) ≡ true → (b : Bool) → list_all f (cond b (row ∷ filter p rows) (filter p rows)) ≡ true
      by first rest true = both_true (f row) (list_all f (filter p rows)) first rest
      by first rest false = rest

  -- where a table may hold rows, it may hold some of them
  pub fit_still : (t : Table) (rows : List TableRow) → are_rows (with_rows t rows) ≡ true → are_rows (with_rows t (filter p rows)) ≡ true
  fit_still t rows fit =
      let parts = both (is_rising int_cmp (rowids_in rows)) (list_all (is_row (with_rows t rows)) rows) fit in
      both_true (is_rising int_cmp (rowids_in (filter p rows))) (list_all (is_row (with_rows t rows)) (filter p rows))
      (rises_rising (filter p rows) (rises_still rows (fit_rows_rise (with_rows t rows) fit))) (all_still (is_row (with_rows t rows)) rows parts.1)

-- greater rowids leave the first
stays_first : (rowids : List ℤ) (first : Entry) (rows : List Entry) → AreOver first.rowid rowids → without_rows rowids (first ∷ rows) ≡ first ∷ without_rows rowids rows
stays_first [] first rows less = refl
stays_first (rowid ∷ rowids) first rows less =
    ap (λ (b : Bool). without_rows rowids (if b then rows else first ∷ without_row rowid rows)) (less_not first.rowid rowid less.0) ∙ stays_first rowids first (without_row rowid rows) less.1

gone_first : (first : Entry) (rows : List Entry) (rowid : ℤ) → first.rowid ≡ rowid → without_row rowid (first ∷ rows) ≡ rows
gone_first first rows rowid same = ap (λ (b : Bool). if b then rows else first ∷ without_row rowid rows) (elim (same_or_other first.rowid rowid) [ inl is ↦ is.0 | inr other ↦ absurd (other.1 same) ])

module _ (shape : RowShape) (gone : TableRow → Bool) where
  abbrev stays : TableRow → Bool
  stays row = not (gone row)

  left_are : (entries : List Entry) (rows : List TableRow) → Pairwise (IsRow shape) entries rows → Rises rows → Pairwise (IsRow shape) (without_rows (rowids_in (filter gone rows)) entries) (filter stays rows)
  left_are [] [] each rises = tt
  left_are [] (row ∷ rows) each rises = absurd each
  left_are (entry ∷ entries) [] each rises = absurd each
  left_are (entry ∷ entries) (row ∷ rows) each rises = by (left_are entries rows each.1 (rest_rises row rows rises)) (gone row)
    where
      by : Pairwise (IsRow shape) (without_rows (rowids_in (filter gone rows)) entries) (filter stays rows)
          → (b : Bool) → Pairwise (IsRow shape) (without_rows (rowids_in (cond b (row ∷ filter gone rows) (filter gone rows))) (entry ∷ entries)) (cond (not b) (row ∷ filter stays rows) (filter stays rows))
      by rest true =
          subst (λ (all : List Entry). Pairwise (IsRow shape) (without_rows (rowids_in (filter gone rows)) all) (filter stays rows)) (sym (gone_first entry entries row.0 each.0.rowid)) rest
      by rest false =
          subst (λ (all : List Entry). Pairwise (IsRow shape) all (row ∷ filter stays rows))
          (sym (stays_first (rowids_in (filter gone rows)) entry entries (subst (λ (n : ℤ). AreOver n (rowids_in (filter gone rows))) (sym each.0.rowid) (over gone row.0 rows rises)))) (each.0, rest)

-- ---- what the calls answer

abbrev rowids_of : Answer (List TableRow) → Answer (List ℤ)
rowids_of rows = rows then λ them. Ok (map (λ row. row.0) them)

-- the rows of the rowids that go are taken out, where these are those of the rows that are chosen
left_out : (old new : PageMap) (size : ℕ) (table : BoundSource) (condition : Term) (rowids : List ℤ) (result : Result ⊤ Fault) → MakesRows old new size table.root (without_rows rowids) result
    → (rows : List TableRow) (entries : List Entry) (used free : List ℕ) → Stands old size table.root entries used free → Pairwise (IsRow table.shape) entries rows
    → rowids_of (chosen condition rows) ≡ Ok rowids → MatchResult result (λ done. AreTakenOut old new size table condition rows used free) IsOutsideOrFull
left_out old new size table condition rowids result makes rows entries used free is each gone = by result (makes entries used free is)
  where
    known : (rowids ≡ rowids_in (filter (is_chosen condition) rows)) × (rows_left condition rows ≡ Ok (filter (λ row. not (is_chosen condition row)) rows))
    known = chosen_and_left condition rows rowids gone

    rises : Rises rows
    rises = rows_rise table.shape entries rows (tree_rises old size table.root entries used is.tree) each

    by : (r : Result ⊤ Fault) → MatchResult r (λ done. BecomesRows old new size table.root (without_rows rowids entries) used free) IsOutsideOrFull
        → MatchResult r (λ done. AreTakenOut old new size table condition rows used free) IsOutsideOrFull
    by (Ok done) becomes = record {
      left = filter (λ row. not (is_chosen condition row)) rows;
      answer = known.1;
      entries = without_rows rowids entries;
      becomes = becomes;
      each = subst (λ (ids : List ℤ). Pairwise (IsRow table.shape) (without_rows ids entries) (filter (λ row. not (is_chosen condition row)) rows)) (sym known.0)
          (left_are table.shape (is_chosen condition) entries rows each rises);
    }
    by (Err fault) cannot = cannot

-- a rowid more
pub rowid_on : (rowid_of : ℕ → ℤ) (places : List ℕ) (i : ℕ) (rowids : List ℤ) → i < length places → rowids ≡ map rowid_of (take i places)
    → rowids ++ rowid_of (slice_index_or places i 0) ∷ [] ≡ map rowid_of (take (i + 1) places)
rowid_on rowid_of places i rowids lt so =
    ap (λ (ids : List ℤ). ids ++ rowid_of (slice_index_or places i 0) ∷ []) so ∙ sym (map_more rowid_of places i 0 lt)

pub rowids_at_end : (rowid_of : ℕ → ℤ) (places : List ℕ) (i : ℕ) → length places ≤ i → map rowid_of (take i places) ≡ map rowid_of places
rowids_at_end rowid_of places i le = ap (map rowid_of) (take_all i places le)

-- of rows that were read
rowids_read : (rows : List Row) (places : List ℕ) → map (λ place. rowid_number (row_at rows place).rowid) places ≡ rowids_in (map (λ place. as_row (row_at rows place)) places)
rowids_read rows [] = refl
rowids_read rows (place ∷ places) = ap (λ (ids : List ℤ). rowid_number (row_at rows place).rowid ∷ ids) (rowids_read rows places)

module _ (old new : PageMap) (size : ℕ) where
  -- no removals are made
  pub none_made : (root : ℕ) (edit : List Entry → List Entry) (fault : Fault) (result : Result ⊤ Fault) → IsErrAnd result (λ e. e ≡ fault) → fault ≡ Memory → MakesRows old new size root edit result
  none_made root edit fault (Ok done) same memory = absurd same
  none_made root edit fault (Err e) same memory = λ rows used free is. inl (inl (same ∙ memory))

  -- no rowids are read
  pub none_counted : (table : BoundSource) (gone : List TableRow) (fault : Fault) (result : Result ⊤ Fault) → IsErrAnd result (λ e. e ≡ fault) → fault ≡ Memory → TakesThese old new size table gone result
  none_counted table gone fault (Ok done) same memory = absurd same
  none_counted table gone fault (Err e) same memory = λ condition rows entries used free is each are. inl (inl (same ∙ memory))

  pub these_taken : (table : BoundSource) (found : List Row) (places : List ℕ) (rowids : List ℤ) (result : Result ⊤ Fault) → rowids ≡ map (λ place. rowid_number (row_at found place).rowid) places
      → MakesRows old new size table.root (without_rows rowids) result → TakesThese old new size table (map (λ place. as_row (row_at found place)) places) result
  these_taken table found places rowids result are makes condition rows entries used free is each chosen_are =
      left_out old new size table condition rowids result makes rows entries used free is each
      (ap rowids_of chosen_are ∙ ap (λ (ids : List ℤ). Ok ids) (sym (are ∙ rowids_read found places)))

module _ (old new : PageMap) (size : ℕ) (table : BoundSource) (condition : Term) (found : List Row) where
  refused : (fault : Fault) (result : Result ⊤ Fault) → IsErrAnd result (λ e. e ≡ fault)
      → ((rows : List TableRow) → AreEnough (Some condition) found rows → IsTakeRefusal condition rows fault)
      → TakesRows old new size table condition found result
  refused fault (Ok x) same why = absurd same
  refused fault (Err e) same why = λ rows entries used free is each enough. subst (λ (g : Fault). IsTakeRefusal condition rows g) (sym same) (why rows enough)

  pub none_chosen : (fault : Fault) (result : Result ⊤ Fault) → IsErrAnd result (λ e. e ≡ fault)
      → ((some : List TableRow) → found ≡ map as_source some → IsRefusedBy (chosen condition some then λ them. Ok (map (λ row. row.0) them)) fault) → TakesRows old new size table condition found result
  none_chosen fault result same why =
      refused fault result same (λ rows enough. by rows (subst (λ (a : Answer (List TableRow)). IsRefusedBy (rowids_of a) fault) enough.same (why enough.some enough.are)))
    where
      by : (rows : List TableRow) → IsRefusedBy (rowids_of (chosen condition rows)) fault → IsTakeRefusal condition rows fault
      by rows (inl memory) = inl (inl (inl memory))
      by rows (inr e) = inr (chosen_refused condition rows (refusal_of fault) e)

  pub rows_taken : (rowids : List ℤ) (result : Result ⊤ Fault) → ((some : List TableRow) → found ≡ map as_source some → (chosen condition some then λ them. Ok (map (λ row. row.0) them)) ≡ Ok rowids)
      → MakesRows old new size table.root (without_rows rowids) result → TakesRows old new size table condition found result
  rows_taken rowids result chosen_are makes rows entries used free is each enough =
      by result (left_out old new size table condition rowids result makes rows entries used free is each (ap rowids_of (sym enough.same) ∙ chosen_are enough.some enough.are))
    where
      by : (r : Result ⊤ Fault) → MatchResult r (λ done. AreTakenOut old new size table condition rows used free) IsOutsideOrFull
          → MatchResult r (λ done. AreTakenOut old new size table condition rows used free) (IsTakeRefusal condition rows)
      by (Ok done) taken = taken
      by (Err fault) cannot = inl cannot
