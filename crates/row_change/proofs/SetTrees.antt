-- What UPDATE leaves in a tree is what the definition says.
use Rattle.std.proofs.Common.{◌≡◌, ◌⊎◌, inl, inr, refl, sym, ap, subst, ◌∙◌, ℕ, ℤ, Bool, true, false, filter, List, [], ◌∷◌, ◌++◌, append_assoc, length, map, Option, Some, None, is_none, Result, Ok, Err}
use Rattle.std.specs.FinMap.Entries.{find}
use Rattle.std.specs.Global.{Vec}
use Rattle.std.specs.List.{list_all}
use Rattle.std.specs.Ordering.{int_cmp}
use Rattle.std.specs.Prelude.{IsErrAnd, MatchResult, ⊤}
use Rattle.std.proofs.lemmas.List.{append-nil, length-map}
use Rattle.sqlval.specs.Conversion.{is_word}
use Rattle.sqlval.specs.Refusals.{Answer, Refusal, Unique, ◌then◌, all_answers, refusal_of}
use Rattle.sqlval.specs.declared.fault.Fault.{Fault}
use Rattle.sqlval.specs.declared.fault.Fault.TheVariants as f
use Rattle.sqlval.specs.declared.value.Value.{Value}
use Rattle.record.specs.Writing.{AreStorable}
use Rattle.tree_leaf.specs.Leaf.{Entry}
use Rattle.pages.specs.Calls.{IsOutsideOrFull}
use Rattle.pages.specs.Map.{PageMap}
use Rattle.tree_page.specs.Cells.{Pairwise}
use Rattle.tree_table.specs.Calls.{BecomesRows, Stands}
use Rattle.tree_table.specs.Rows.{payload_at, with_replaced, with_row, without_row}
use Rattle.catalog.specs.Listed.{as_column, own_column, shape_of, with_rows}
use Rattle.catalog.specs.Rows.{are_rows, holds_rowid, is_row, rowid_number}
use Rattle.catalog.specs.declared.tables.RowShape.{RowShape}
use Rattle.catalog.specs.declared.tables.Table.{Table}
use Rattle.catalog.specs.declared.tables.TableRow as stored
use Rattle.query_terms.specs.Outcome.{IsRefusedBy}
use Rattle.query_terms.specs.Terms.{Term}
use Rattle.query_terms.specs.Values.{Row}
use Rattle.row_scan.specs.Rows.{IsRow, TableRow}
use Rattle.row_scan.specs.Sources.{as_source}
use Rattle.row_scan.proofs.TreeOrder.{tree_rises}
use Rattle.row_change.specs.Constraints.{demand}
use Rattle.row_change.specs.Demands.{with_own_rowid}
use Rattle.row_change.specs.Choosing.{chosen_or_all, is_chosen, tested}
use Rattle.row_change.specs.Inserting.{AllStorable}
use Rattle.row_change.specs.Meaning.{AreEnough}
use Rattle.row_change.specs.NewRows.{IsWritten, all_hold}
use Rattle.row_change.specs.Putting.{MovesRow}
use Rattle.row_change.specs.Setting.{row_set, rowid_left, rows_changed, rows_meant, rows_meant_set, rows_set_each, source_set}
use Rattle.row_change.specs.Updating.{AreSetIn, IsSetIn, IsSetRefusal, ReplacesRows, SetsRow, SetsRows, TellsChanged, row_moved, with_all_replaced}
use Rattle.row_change.proofs.AmongRows.{find_others, fit_put, fit_without, is_there, one_of_all, own_free, own_taken, put_pairs, replaced_moves, without_pairs}
use Rattle.row_change.proofs.FitRows.{row_fits, word_fits}
use Rattle.row_change.proofs.OwnPlaces.{held_word, left_same}
use Rattle.row_change.proofs.Replaced.{after_fits, after_hold, all_fit, are_set, fit_now, made, set_holds, set_is_row, set_parts, set_refused}
use Rattle.row_change.proofs.Rising.{Rises, both, rows_rise}
use Rattle.row_change.proofs.SetRows.{map_twice}

-- what the condition says of each row, and of a row
abbrev pub asked : Option Term → List TableRow → Answer (List (Option Bool))
asked None rows = Ok []
asked (Some c) rows = all_answers (map (tested c) rows)

abbrev pub meant_by : Option Term → TableRow → Bool
meant_by None = λ row. true
meant_by (Some c) = is_chosen c

abbrev given_rows : List Row → Answer (List Row)
given_rows rows = Ok rows

pub set_as : (table : Table) (sets : List (ℕ × Term)) (c : Option Term) (rows : List TableRow) → rows_set_each table sets c rows ≡ (asked c rows then λ ts. rows_meant_set table sets (meant_by c) rows)
set_as table sets None rows = refl
set_as table sets (Some c) rows = refl

abbrev is_true : Answer (Option Bool) → Bool
is_true test = elim test [ Ok (Some true) ↦ true | _ ↦ false ]

pub meant_as : (c : Option Term) (before : List Row) (rows : List TableRow) → rows_meant c before (map as_source rows) ≡ (asked c rows then λ ts. Ok (before ++ map as_source (filter (meant_by c) rows)))
meant_as None before [] = ap given_rows (sym (append-nil before))
meant_as (Some c) before [] = ap given_rows (sym (append-nil before))
meant_as None before (r ∷ rows) = meant_as None (before ++ as_source r ∷ []) rows ∙ ap given_rows (append_assoc before (as_source r ∷ []) (map as_source (filter (λ row. true) rows)))
meant_as (Some c) before (r ∷ rows) = by (λ more. meant_as (Some c) more rows) (tested c r) refl
  where
    taken : (a : Answer (List (Option Bool))) (x : Option Bool) (them : List Row)
        → (a then λ ts. given_rows ((before ++ as_source r ∷ []) ++ them)) ≡ ((a then λ xs. Ok (x ∷ xs)) then λ ts. given_rows (before ++ (as_source r ∷ them)))
    taken (Ok xs) x them = ap given_rows (append_assoc before (as_source r ∷ []) them)
    taken (Err e) x them = refl

    passed : (a : Answer (List (Option Bool))) (x : Option Bool) (them : List Row) → (a then λ ts. given_rows (before ++ them)) ≡ ((a then λ xs. Ok (x ∷ xs)) then λ ts. given_rows (before ++ them))
    passed (Ok xs) x them = refl
    passed (Err e) x them = refl

    by : ((more : List Row) → rows_meant (Some c) more (map as_source rows) ≡ (asked (Some c) rows then λ ts. Ok (more ++ map as_source (filter (is_chosen c) rows)))) → (t : Answer (Option Bool)) → tested c r ≡ t
        → rows_meant (Some c) before (map as_source (r ∷ rows)) ≡ (asked (Some c) (r ∷ rows) then λ ts. Ok (before ++ map as_source (filter (is_chosen c) (r ∷ rows))))
    by again (Err e) it = rw (it) refl
    by again (Ok (Some true)) it = rw (it, ap is_true it) (again (before ++ as_source r ∷ []) ∙ taken (asked (Some c) rows) (Some true) (map as_source (filter (is_chosen c) rows)))
    by again (Ok (Some false)) it = rw (it, ap is_true it) (again before ∙ passed (asked (Some c) rows) (Some false) (map as_source (filter (is_chosen c) rows)))
    by again (Ok None) it = rw (it, ap is_true it) (again before ∙ passed (asked (Some c) rows) None (map as_source (filter (is_chosen c) rows)))

abbrev pub as_sources : List TableRow → Answer (List Row)
as_sources them = Ok (map as_source them)

all_rows : (rows : List TableRow) → filter (meant_by None) rows ≡ rows
all_rows [] = refl
all_rows (row ∷ rows) = ap (λ (rs : List TableRow). row ∷ rs) (all_rows rows)

-- the rows that are meant are those that the condition chooses
pub meant_as_chosen : (c : Option Term) (rows : List TableRow) → rows_meant c [] (map as_source rows) ≡ (chosen_or_all c rows then as_sources)
meant_as_chosen None rows = meant_as None [] rows ∙ ap as_sources (all_rows rows)
meant_as_chosen (Some c) rows = meant_as (Some c) [] rows ∙ by (all_answers (map (tested c) rows))
  where
    by : (a : Answer (List (Option Bool))) → (a then λ ts. given_rows (map as_source (filter (is_chosen c) rows))) ≡ ((a then λ tests. Ok (filter (is_chosen c) rows)) then as_sources)
    by (Ok ts) = refl
    by (Err r) = refl

module _ (table : Table) (sets : List (ℕ × Term)) (c : Option Term) where
  abbrev changes : List Row → Answer (List TableRow)
  changes them = all_answers (map (source_set table sets) them)

  changed_as : (rows : List TableRow) → rows_changed table sets c (map as_source rows) ≡ (asked c rows then λ ts. made table sets (meant_by c) rows)
  changed_as rows =
      ap (λ (a : Answer (List Row)). a then changes) (meant_as c [] rows)
      ∙ by (asked c rows)
    where
      by : (a : Answer (List (Option Bool))) → ((a then λ ts. given_rows (map as_source (filter (meant_by c) rows))) then changes) ≡ (a then λ ts. made table sets (meant_by c) rows)
      by (Ok ts) = ap all_answers (sym (map_twice (source_set table sets) as_source (filter (meant_by c) rows)))
      by (Err r) = refl

  pub changed_known : (rows new : List TableRow) → rows_changed table sets c (map as_source rows) ≡ Ok new
      → (made table sets (meant_by c) rows ≡ Ok new) × (rows_set_each table sets c rows ≡ rows_meant_set table sets (meant_by c) rows)
  changed_known rows new e = (let both = by (asked c rows) (sym (changed_as rows) ∙ e) in (both.0, set_as table sets c rows ∙ both.1))
    where
      by : (a : Answer (List (Option Bool))) → (a then λ ts. made table sets (meant_by c) rows) ≡ Ok new
          → (made table sets (meant_by c) rows ≡ Ok new) × ((a then λ ts. rows_meant_set table sets (meant_by c) rows) ≡ rows_meant_set table sets (meant_by c) rows)
      by (Ok ts) h = (h, refl)
      by (Err r) h = absurd cc

  pub changed_refused : (rows : List TableRow) (why : Refusal) → rows_changed table sets c (map as_source rows) ≡ Err why → rows_set_each table sets c rows ≡ Err why
  changed_refused rows why e = set_as table sets c rows ∙ by (asked c rows) (sym (changed_as rows) ∙ e)
    where
      by : (a : Answer (List (Option Bool))) → (a then λ ts. made table sets (meant_by c) rows) ≡ Err why → (a then λ ts. rows_meant_set table sets (meant_by c) rows) ≡ Err why
      by (Ok ts) h = set_refused table sets (meant_by c) rows why h
      by (Err r) h = h

  -- a refusal of which rows are meant is one of what they become
  pub meant_refused : (rows : List Row) (fault : Fault) → IsRefusedBy (rows_meant c [] rows) fault → IsRefusedBy (rows_changed table sets c rows) fault
  meant_refused rows fault (inl memory) = inl memory
  meant_refused rows fault (inr why) = inr (ap (λ (a : Answer (List Row)). a then changes) why)

  -- what the rows become hold their rowids
  pub changed_hold : (rows : List Row) (new : List TableRow) → rows_changed table sets c rows ≡ Ok new → all_hold (own_column table) new ≡ true
  changed_hold rows new e = by (rows_meant c [] rows) e
    where
      by : (a : Answer (List Row)) → (a then changes) ≡ Ok new → all_hold (own_column table) new ≡ true
      by (Ok them) h = after_hold table sets them new h
      by (Err r) h = absurd cc

  -- what the rows become of which it's enough to read some
  enough_changed : (found : List Row) (rows : List TableRow) → AreEnough c found rows → rows_changed table sets c found ≡ rows_changed table sets c (map as_source rows)
  enough_changed found rows enough =
      ap (rows_changed table sets c) enough.are
      ∙ ap (λ (a : Answer (List Row)). a then changes)
      (meant_as_chosen c enough.some ∙ (ap (λ (a : Answer (List TableRow)). a then as_sources) enough.same ∙ sym (meant_as_chosen c rows)))

  -- ---- what the calls answer

  module _ (old new : PageMap) (size root : ℕ) (found : List Row) where
    refused : {X : Type 0} (fault : Fault) (result : Result X Fault) → IsErrAnd result (λ e. e ≡ fault)
        → ((rows : List TableRow) → AreEnough c found rows → IsSetRefusal table sets c rows fault)
        → SetsRows old new size root table sets c found result
    refused fault (Ok x) same why = absurd same
    refused fault (Err e) same why = λ rows entries used free kept is each enough. subst (λ (g : Fault). IsSetRefusal table sets c rows g) (sym same) (why rows enough)

    -- a call that passes it on
    pub passed_on : {X : Type 0} (fault : Fault) (result : Result X Fault) → IsErrAnd result (λ e. e ≡ fault) → SetsRows {X = ⊤} old new size root table sets c found (Err fault)
        → SetsRows old new size root table sets c found result
    passed_on fault (Ok x) same sets_so = absurd same
    passed_on fault (Err e) same sets_so = λ rows entries used free kept is each enough. subst (λ (g : Fault). IsSetRefusal table sets c rows g) (sym same) (sets_so rows entries used free kept is each enough)

    pub none_changed : {X : Type 0} (fault : Fault) (result : Result X Fault) → IsErrAnd result (λ e. e ≡ fault) → IsRefusedBy (rows_changed table sets c found) fault → SetsRows old new size root table sets c found result
    none_changed fault result same why = refused fault result same (λ rows enough. by rows enough why)
      where
        by : (rows : List TableRow) → AreEnough c found rows → IsRefusedBy (rows_changed table sets c found) fault → IsSetRefusal table sets c rows fault
        by rows enough (inl memory) = inl (inl (inl memory))
        by rows enough (inr e) = inr (changed_refused rows (refusal_of fault) (sym (enough_changed found rows enough) ∙ e))

    module _ (changed : List TableRow) (answer : rows_changed table sets c found ≡ Ok changed) where
      known : (rows : List TableRow) → AreEnough c found rows → (made table sets (meant_by c) rows ≡ Ok changed) × (rows_set_each table sets c rows ≡ rows_meant_set table sets (meant_by c) rows)
      known rows enough = changed_known rows changed (sym (enough_changed found rows enough) ∙ answer)

      pub none_stored : {X : Type 0} (fault : Fault) (result : Result X Fault) → IsErrAnd result (λ e. e ≡ fault) → (fault ≡ f.Memory) ⊎ ((fault ≡ f.TooLong) × (AllStorable changed → ⊥)) → SetsRows old new size root table sets c found result
      none_stored fault result same why = refused fault result same (λ rows enough. by rows enough why)
        where
          by : (rows : List TableRow) → AreEnough c found rows → (fault ≡ f.Memory) ⊎ ((fault ≡ f.TooLong) × (AllStorable changed → ⊥)) → IsSetRefusal table sets c rows fault
          by rows enough (inl memory) = inl (inl (inl memory))
          by rows enough (inr (long, cannot)) = absurd (cannot (all_fit table sets (meant_by c) (filter (meant_by c) rows) changed (known rows enough).0))

      pub rows_replaced : (more : List Entry) (result : Result ⊤ Fault) → Pairwise (IsWritten (own_column table)) changed more → ReplacesRows old new size root (with_all_replaced more) result → SetsRows old new size root table sets c found result
      rows_replaced more result written replaces rows entries used free kept is each enough = by result (replaces entries used free is)
        where
          rises : Rises rows
          rises = rows_rise (shape_of table) entries rows (tree_rises old size root entries used is.tree) each

          by : (r : Result ⊤ Fault) → MatchResult r (λ done. BecomesRows old new size root (with_all_replaced more entries) used free) IsOutsideOrFull
              → MatchResult r (λ done. AreSetIn old new size root table sets c rows used free) (IsSetRefusal table sets c rows)
          by (Ok done) becomes =
              let are = known rows enough in
              let set = are_set table sets (meant_by c) kept rows changed entries more each rises are.0 written in
              record {
                now = set.now;
                answer = are.1 ∙ set.answer;
                entries = with_all_replaced more entries;
                becomes = becomes;
                each = set.each;
                fit = fit_now table sets (meant_by c) kept rows changed entries more set;
              }
          by (Err fault) cannot = inl cannot

  -- the rows that are answered
  module _ (found : List Row) where
    pub none_told : (fault : Fault) (result : Result (Vec stored.TableRow) Fault) → IsErrAnd result (λ e. e ≡ fault) → TellsChanged table sets c found result
    none_told fault (Ok x) same = absurd same
    none_told fault (Err e) same = λ rows enough. tt

    pub told_changed : (changed now : List TableRow) → rows_changed table sets c found ≡ Ok changed → now ≡ changed → (rows : List TableRow) → AreEnough c found rows → rows_changed table sets c (map as_source rows) ≡ Ok now
    told_changed changed now answer same rows enough = sym (enough_changed found rows enough) ∙ (answer ∙ ap (λ (them : List TableRow). Ok them) (sym same))

-- ---- one row

full_in : (shape : RowShape) (before : List TableRow) (row : TableRow) (after : List TableRow) (entries : List Entry) → Pairwise (IsRow shape) entries (before ++ row ∷ after) → length row.1 ≡ shape.width
full_in shape [] row after [] each = absurd each
full_in shape [] row after (entry ∷ entries) each = each.0.full
full_in shape (k ∷ before) row after [] each = absurd each
full_in shape (k ∷ before) row after (entry ∷ entries) each = full_in shape before row after entries each.1

abbrev Refuses : Table → List (ℕ × Term) → List TableRow → TableRow → Fault → Type 0
Refuses table sets others row fault = IsOutsideOrFull fault ⊎ (row_moved table sets others row ≡ Err (refusal_of fault))

module _ (table : Table) (sets : List (ℕ × Term)) (source : Row) (old new : PageMap) (size root : ℕ) where
  pub not_set : (fault : Fault) (result : Result stored.TableRow Fault) → IsErrAnd result (λ e. e ≡ fault)
      → ((row : TableRow) → source ≡ as_source row → IsOutsideOrFull fault ⊎ (row_set table sets row ≡ Err (refusal_of fault))) → SetsRow old new size root table sets source result
  not_set fault (Ok x) same why = absurd same
  not_set fault (Err e) same why = λ before row after entries used free is each from.
      subst (λ (g : Fault). Refuses table sets (before ++ after) row g) (sym same) (by (before ++ after) row (why row from))
    where
      by : (others : List TableRow) (row : TableRow) → IsOutsideOrFull fault ⊎ (row_set table sets row ≡ Err (refusal_of fault)) → Refuses table sets others row fault
      by others row (inl outside) = inl outside
      by others row (inr why) = inr (ap (λ (a : Answer TableRow). a then λ now. with_own_rowid others now) why)

  module _ (x : TableRow) (answer : source_set table sets source ≡ Ok x) where
    -- its own column holds its rowid
    pub source_holds : holds_rowid (own_column table) x ≡ true
    source_holds = set_holds table sets (rowid_number source.rowid) source x answer

    pub not_written : (fault : Fault) → (fault ≡ f.Memory) ⊎ ((fault ≡ f.TooLong) × (AreStorable x.1 → ⊥)) → (row : TableRow) → source ≡ as_source row
        → IsOutsideOrFull fault ⊎ (row_set table sets row ≡ Err (refusal_of fault))
    not_written fault (inl memory) row from = inl (inl (inl memory))
    not_written fault (inr long) row from = absurd (long.1 (after_fits table sets (rowid_number source.rowid) source x answer))

    set_is : (row : TableRow) → source ≡ as_source row → row_set table sets row ≡ Ok x
    set_is row from = subst (λ (s : Row). source_set table sets s ≡ Ok x) from answer

    moved_is : (others : List TableRow) (row : TableRow) → source ≡ as_source row → row_moved table sets others row ≡ with_own_rowid others x
    moved_is others row from = ap (λ (a : Answer TableRow). a then λ now. with_own_rowid others now) (set_is row from)

    module _ (m : Entry) (written : IsWritten (own_column table) x m) (before : List TableRow) (row : TableRow) (after : List TableRow) (entries : List Entry) (used free : List ℕ) (is : Stands old size root entries used free)
        (each : Pairwise (IsRow (shape_of table)) entries (before ++ row ∷ after)) (from : source ≡ as_source row) where
      rises : Rises (before ++ row ∷ after)
      rises = rows_rise (shape_of table) entries (before ++ row ∷ after) (tree_rises old size root entries used is.tree) each

      row_made : IsRow (shape_of table) m x
      row_made = set_is_row table sets row x m (set_is row from) (full_in (shape_of table) before row after entries each) written

      others_are : Pairwise (IsRow (shape_of table)) (without_row row.0 entries) (before ++ after)
      others_are = without_pairs (shape_of table) before row after entries each rises

      -- its rowid is of 64 bits, where that of the row was
      word_left : (own : Option ℕ) → holds_rowid own x ≡ true → rowid_left own row.0 x.1 ≡ Ok x.0 → is_word row.0 ≡ true → is_word x.0 ≡ true
      word_left None holds left word = ap is_word (left_same row.0 x.0 x.1 left) ∙ word
      word_left (Some place) holds left word = held_word place x.0 x.1 holds written.fit

      -- where a table may hold the rows, it may hold this
      set_fits : are_rows (with_rows table (before ++ row ∷ after)) ≡ true → is_row (with_rows table (before ++ after)) x ≡ true
      set_fits fit =
          let t = with_rows table (before ++ row ∷ after) in
          let was : is_row t row ≡ true = one_of_all (is_row t) before row after (both _ (list_all (is_row t) (before ++ row ∷ after)) fit).1 in
          row_fits (with_rows table (before ++ after)) x
          (word_left (own_column table) row_made.own (set_parts table sets row x (set_is row from)).0 (word_fits t row was)) (row_made.full ∙ sym (length-map table.columns as_column)) written.fit row_made.own

      -- the row is out of the tree, and what it became is among the others
      row_is_set : with_own_rowid (before ++ after) x ≡ Ok x → BecomesRows old new size root (with_row m (without_row row.0 entries)) used free → IsSetIn old new size root table sets before row after used free x
      row_is_set alone becomes = record {
        answer = moved_is (before ++ after) row from ∙ alone;
        entries = with_row m (without_row row.0 entries);
        becomes = becomes;
        each = put_pairs (shape_of table) m x row_made (without_row row.0 entries) (before ++ after) others_are;
        fit = λ fit. fit_put table (before ++ after) x (λ held. set_fits fit) (fit_without table before row after fit);
      }

      -- the rowid of the row, as the source has it
      rowid_is : rowid_number source.rowid ≡ row.0
      rowid_is = ap (λ (s : Row). rowid_number s.rowid) from

      row_replaced : (result : Result ⊤ Fault) → m.rowid ≡ rowid_number source.rowid → ReplacesRows old new size root (with_replaced m) result
          → MatchResult result (λ done. IsSetIn old new size root table sets before row after used free x) (Refuses table sets (before ++ after) row)
      row_replaced result at replaces = by result (replaces entries used free is)
        where
          same : x.0 ≡ row.0
          same = sym row_made.rowid ∙ (at ∙ rowid_is)

          alone : with_own_rowid (before ++ after) x ≡ Ok x
          alone =
              ap (λ (o : Option (List Value)). demand (is_none o) Unique then λ _. Ok x)
              (ap (λ (n : ℤ). find int_cmp n (before ++ after)) same ∙ find_others before row after rises)

          by : (r : Result ⊤ Fault) → MatchResult r (λ done. BecomesRows old new size root (with_replaced m entries) used free) IsOutsideOrFull
              → MatchResult r (λ done. IsSetIn old new size root table sets before row after used free x) (Refuses table sets (before ++ after) row)
          by (Ok done) becomes =
              row_is_set alone
              (subst (λ (es : List Entry). BecomesRows old new size root es used free) (replaced_moves (shape_of table) m before row after entries each rises (at ∙ rowid_is)) becomes)
          by (Err fault) outside = inl outside

      row_is_moved : (gone : ℤ) (result : Result ⊤ Fault) → gone ≡ rowid_number source.rowid → MovesRow old new size root gone m result
          → MatchResult result (λ done. IsSetIn old new size root table sets before row after used free x) (Refuses table sets (before ++ after) row)
      row_is_moved gone result at moves =
          by result (subst (λ (n : ℤ). MovesRow old new size root n m result) (at ∙ rowid_is) moves entries used free is (is_there (shape_of table) before row after entries each))
        where
          by : (r : Result ⊤ Fault)
              → MatchResult r (λ done. (payload_at m.rowid (without_row row.0 entries) ≡ None) × BecomesRows old new size root (with_row m (without_row row.0 entries)) used free)
              (λ fault. IsOutsideOrFull fault ⊎ ((fault ≡ f.Unique) × (payload_at m.rowid (without_row row.0 entries) ≡ None → ⊥)))
              → MatchResult r (λ done. IsSetIn old new size root table sets before row after used free x) (Refuses table sets (before ++ after) row)
          by (Ok done) (none, becomes) =
              row_is_set (own_free (shape_of table) (without_row row.0 entries) (before ++ after) others_are x (subst (λ (n : ℤ). payload_at n (without_row row.0 entries) ≡ None) row_made.rowid none)) becomes
          by (Err fault) (inl outside) = inl outside
          by (Err fault) (inr (unique, some)) =
              inr (moved_is (before ++ after) row from
              ∙ (own_taken (shape_of table) (without_row row.0 entries) (before ++ after) others_are x (subst (λ (n : ℤ). payload_at n (without_row row.0 entries) ≡ None → ⊥) row_made.rowid some)
              ∙ ap (λ (g : Fault). Err (refusal_of g)) (sym unique)))

    -- what a call answers that put the record into the tree
    abbrev pub SetsBy : Result ⊤ Fault → Type 0
    SetsBy result = (before : List TableRow) (row : TableRow) (after : List TableRow) (entries : List Entry) (used free : List ℕ) → Stands old size root entries used free
        → Pairwise (IsRow (shape_of table)) entries (before ++ row ∷ after) → source ≡ as_source row
        → MatchResult result (λ done. IsSetIn old new size root table sets before row after used free x) (Refuses table sets (before ++ after) row)

    pub sets_replaced : (m : Entry) → IsWritten (own_column table) x m → (result : Result ⊤ Fault) → m.rowid ≡ rowid_number source.rowid → ReplacesRows old new size root (with_replaced m) result → SetsBy result
    sets_replaced m written result at replaces before row after entries used free is each from = row_replaced m written before row after entries used free is each from result at replaces

    pub sets_moved : (m : Entry) → IsWritten (own_column table) x m → (gone : ℤ) (result : Result ⊤ Fault) → gone ≡ rowid_number source.rowid → MovesRow old new size root gone m result → SetsBy result
    sets_moved m written gone result at moves before row after entries used free is each from = row_is_moved m written before row after entries used free is each from gone result at moves

    pub set_so : (now : stored.TableRow) → (now.rowid, now.values.items) ≡ x → SetsBy (Ok tt) → SetsRow old new size root table sets source (Ok now)
    set_so now same sets_so before row after entries used free is each from =
        subst (λ (r : TableRow). IsSetIn old new size root table sets before row after used free r) (sym same) (sets_so before row after entries used free is each from)

    pub set_after : (fault : Fault) (result : Result stored.TableRow Fault) → IsErrAnd result (λ e. e ≡ fault) → SetsBy (Err fault) → SetsRow old new size root table sets source result
    set_after fault (Ok y) same sets_so = absurd same
    set_after fault (Err e) same sets_so = λ before row after entries used free is each from.
        subst (λ (g : Fault). Refuses table sets (before ++ after) row g) (sym same) (sets_so before row after entries used free is each from)
