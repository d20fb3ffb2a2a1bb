-- What deleting rows with their entries comes to.
use Rattle.std.proofs.Common.{◌≡◌, inl, inr, refl, sym, ap, subst, ℕ, Bool, true, not, filter, List, [], ◌∷◌, ◌++◌, length, map, Option, Some, None, Ok, Err}
use Rattle.std.specs.Prelude.{Result, IsErrAnd, MatchResult, ⊤}
use Rattle.sqlval.specs.Faults.{IsOutside}
use Rattle.sqlval.specs.PageSizes.{IsPageSize}
use Rattle.sqlval.specs.Refusals.{Answer, Refusal, ◌then◌, all_answers, refusal_of}
use Rattle.sqlval.specs.declared.fault.Fault.{Fault}
use Rattle.pages.specs.Calls.{IsOutsideOrFull}
use Rattle.pages.specs.Map.{PageMap}
use Rattle.tree_table.specs.Calls.{BecomesRows}
use Rattle.tree_table.specs.Freeing.{ClearsTree}
use Rattle.db_layout.specs.Layout.{Owner}
use Rattle.catalog.specs.Listed.{shape_of, with_rows}
use Rattle.catalog.specs.Rows.{are_rows}
use Rattle.catalog.specs.declared.tables.Table.{Table}
use Rattle.query_names.specs.declared.queries.BoundSource.{BoundSource}
use Rattle.query_terms.specs.Outcome.{IsRefusedBy}
use Rattle.query_terms.specs.Terms.{Term}
use Rattle.query_terms.specs.Values.{Row}
use Rattle.row_scan.specs.Rows.{TableRow}
use Rattle.row_change.specs.Choosing.{chosen, is_chosen, tested}
use Rattle.row_change.specs.Meaning.{AreEnough}
use Rattle.row_change.specs.Taking.{AreTakenOut, IsTakeRefusal, TakesRows, TakesThese}
use Rattle.row_change.proofs.Taken.{fit_still}
use Rattle.index_entries.specs.Entries.{AreApart}
use Rattle.db_write.specs.Changing.{AreDeleted, DeletesInTrees, HoldsFitRows, IsRefusedDelete}
use Rattle.db_write.specs.Reading.{LoadsEnough}
use Rattle.db_write.specs.Turning.{ClearsIndexes, HaveEntries, HaveNow, TakesFromIndexes}
use Rattle.db_write.proofs.Among.{rows_tree}
use Rattle.db_write.proofs.Owned.{RowsStand, fit_apart, indexes_stand, rows_among, same_entries, table_holds}
use Rattle.db_write.proofs.Shuffling.{parted, shuffled_apart, shuffled_entries}
use Rattle.db_write.proofs.Sides.{no_index}

-- ---- all rows

module _ (old mid : PageMap) (size : ℕ) (table : Table) where
  pub none_cleared : (fault : Fault) (result : Result ⊤ Fault) → IsErrAnd result (λ e. e ≡ fault) → ClearsTree old mid size table.root (Err fault) → DeletesInTrees old mid size table None result
  none_cleared fault (Ok done) same clears = absurd same
  none_cleared fault (Err e) same clears = λ schema before after rows sized is_root among fit. (
      let s = rows_among old size schema before table rows after among sized is_root in
      subst IsOutsideOrFull (sym same) (inl (clears s.entries s.used s.free s.stands)))

  pub all_deleted : (new : PageMap) (result : Result ⊤ Fault) → ClearsTree old mid size table.root (Ok tt) → ClearsIndexes mid new size table.indexes result → DeletesInTrees old new size table None result
  all_deleted new result clears more schema before after rows sized is_root among fit =
      by result (more rows schema (before ++ rows_tree table.root [] (table.root ∷ []) ∷ []) after sized is_root (indexes_stand old mid size schema before table rows after s [] now))
    where
      s : RowsStand old size schema before table rows after
      s = rows_among old size schema before table rows after among sized is_root

      now : BecomesRows old mid size table.root [] s.used s.free
      now =
          let cleared = clears s.entries s.used s.free s.stands in
          record { now_used = table.root ∷ []; now_free = cleared.now_free; stands = cleared.stands; moves = cleared.moves; header = cleared.header }

      by : (r : Result ⊤ Fault) → MatchResult r (λ done. HaveNow mid new size schema (before ++ rows_tree table.root [] (table.root ∷ []) ∷ []) table.indexes [] after) IsOutsideOrFull
          → MatchResult r (λ done. HoldsFitRows old new size schema before table [] after) IsOutsideOrFull
      by (Ok done) have = record { holds = table_holds old mid size schema before table rows after s [] now new [] tt have; fit = refl }
      by (Err fault) why = why

-- ---- some rows

abbrev stays : Term → TableRow → Bool
stays c row = not (is_chosen c row)

abbrev answer_of : List TableRow → Answer (List TableRow)
answer_of rows = Ok rows

same_rows : (a b : List TableRow) → answer_of a ≡ answer_of b → a ≡ b
same_rows a b e = cc

no_refusal : (r : Refusal) (a : List TableRow) → (let l : Answer (List TableRow) = Err r in l) ≡ Ok a → ⊥
no_refusal r a e = absurd cc

no_rows : (r : Refusal) (a : List TableRow) → answer_of a ≡ Err r → ⊥
no_rows r a e = absurd cc

same_refusal : (r s : Refusal) → (let l : Answer (List TableRow) = Err r in l) ≡ Err s → r ≡ s
same_refusal r s e = cc

filtered : (p : TableRow → Bool) (rows them : List TableRow) (a : Answer (List (Option Bool))) → (a then λ tests. answer_of (filter p rows)) ≡ Ok them → filter p rows ≡ them
filtered p rows them (Ok tests) e = same_rows (filter p rows) them e
filtered p rows them (Err r) e = absurd (no_refusal r them e)

not_filtered : (p q : TableRow → Bool) (rows : List TableRow) (r : Refusal) (a : Answer (List (Option Bool))) → (a then λ tests. answer_of (filter p rows)) ≡ Err r → (a then λ tests. answer_of (filter q rows)) ≡ Err r
not_filtered p q rows r (Ok tests) e = absurd (no_rows r (filter p rows) e)
not_filtered p q rows r (Err s) e = ap (λ (x : Refusal). Err x) (same_refusal s r e)

-- these are the rows for which a condition is true, of rows of which some were read
abbrev pub AreMeant : Term → List Row → List TableRow → Type 0
AreMeant c found gone = (rows : List TableRow) → AreEnough (Some c) found rows → chosen c rows ≡ Ok gone

module _ (old mid : PageMap) (size : ℕ) (table : Table) (c : Term) where
  abbrev reading : BoundSource
  reading = record { root = table.root; shape = shape_of table }

  -- no rows are read
  pub none_read : (condition : Option Term) (fault : Fault) (result : Result ⊤ Fault) → IsErrAnd result (λ e. e ≡ fault) → LoadsEnough old size table condition (Err fault) → DeletesInTrees old mid size table (Some c) result
  none_read condition fault (Ok done) same loads = absurd same
  none_read condition fault (Err e) same loads = λ schema before after rows sized is_root among fit.
      inl (inl (subst IsOutside (sym same) (loads schema before after rows sized is_root among fit)))

  module _ (found : List Row) (loads : LoadsEnough old size table (Some c) (Ok found)) where
    -- the rows that go aren't found
    pub none_meant : (fault : Fault) (result : Result ⊤ Fault) → IsErrAnd result (λ e. e ≡ fault) → ((rows : List TableRow) → AreEnough (Some c) found rows → IsRefusedBy (chosen c rows) fault) → DeletesInTrees old mid size table (Some c) result
    none_meant fault (Ok done) same means = absurd same
    none_meant fault (Err e) same means = λ schema before after rows sized is_root among fit.
        subst (λ (f : Fault). IsRefusedDelete c rows f) (sym same) (by rows (means rows (loads schema before after rows sized is_root among fit)))
      where
        by : (rows : List TableRow) → IsRefusedBy (chosen c rows) fault → IsRefusedDelete c rows fault
        by rows (inl memory) = inl (inl (inl memory))
        by rows (inr e) = inr (not_filtered (is_chosen c) (stays c) rows (refusal_of fault) (all_answers (map (tested c) rows)) e)

    -- those that were found are taken, which are the rows for which the condition is true
    pub these_taken : (gone : List TableRow) (result : Result ⊤ Fault) → AreMeant c found gone → TakesThese old mid size reading gone result → TakesRows old mid size reading c found result
    these_taken gone result means takes rows entries used free is each enough = by result (takes c rows entries used free is each (means rows enough))
      where
        by : (r : Result ⊤ Fault) → MatchResult r (λ done. AreTakenOut old mid size reading c rows used free) IsOutsideOrFull → MatchResult r (λ done. AreTakenOut old mid size reading c rows used free) (IsTakeRefusal c rows)
        by (Ok done) taken = taken
        by (Err fault) cannot = inl cannot

    -- no row is taken
    pub none_taken : (fault : Fault) (result : Result ⊤ Fault) → IsErrAnd result (λ e. e ≡ fault) → TakesRows old mid size reading c found (Err fault) → DeletesInTrees old mid size table (Some c) result
    none_taken fault (Ok done) same takes = absurd same
    none_taken fault (Err e) same takes = λ schema before after rows sized is_root among fit. (
        let s = rows_among old size schema before table rows after among sized is_root in
        subst (λ (f : Fault). IsRefusedDelete c rows f) (sym same) (takes rows s.entries s.used s.free s.stands s.each (loads schema before after rows sized is_root among fit)))

    -- rows are taken; then the indexes follow
    module _ (takes : TakesRows old mid size reading c found (Ok tt)) (schema : Owner) (before after : List Owner) (rows : List TableRow) (s : RowsStand old size schema before table rows after)
        (enough : AreEnough (Some c) found rows) (fit : are_rows (with_rows table rows) ≡ true) where
      taken : AreTakenOut old mid size reading c rows s.used s.free
      taken = takes rows s.entries s.used s.free s.stands s.each enough

      left_is : filter (stays c) rows ≡ taken.left
      left_is = filtered (stays c) rows taken.left (all_answers (map (tested c) rows)) taken.answer

      fits : are_rows (with_rows table taken.left) ≡ true
      fits = subst (λ (l : List TableRow). are_rows (with_rows table l) ≡ true) left_is (fit_still (stays c) table rows fit)

      abbrev Before : List Owner
      Before = before ++ rows_tree table.root taken.entries taken.becomes.now_used ∷ []

      stand : HaveEntries mid size schema Before table.indexes rows after
      stand = indexes_stand old mid size schema before table rows after s taken.entries taken.becomes

      done_as : (new : PageMap) (r : Result ⊤ Fault) → MatchResult r (λ done. HaveNow mid new size schema Before table.indexes taken.left after) IsOutsideOrFull
          → MatchResult r (λ done. AreDeleted old new size schema before table c rows after) (IsRefusedDelete c rows)
      done_as new (Ok done) have = record {
        left = taken.left;
        answer = taken.answer;
        hold = record { holds = table_holds old mid size schema before table rows after s taken.entries taken.becomes new taken.left taken.each have; fit = fits };
      }
      done_as new (Err fault) why = inl why

      -- of a table without indexes
      bare_done : IsPageSize size → schema.root ≡ 1 → length table.indexes ≡ 0 → AreDeleted old mid size schema before table c rows after
      bare_done sized is_root bare = done_as mid (Ok tt) (no_index mid size schema Before table.indexes rows taken.left after sized is_root bare stand)

      -- of a table with indexes
      gone_is : (gone : List TableRow) → AreMeant c found gone → filter (is_chosen c) rows ≡ gone
      gone_is gone means = filtered (is_chosen c) rows gone (all_answers (map (tested c) rows)) (means rows enough)

      indexed_done : IsPageSize size → schema.root ≡ 1 → (new : PageMap) (gone : List TableRow) (result : Result ⊤ Fault) → AreMeant c found gone → TakesFromIndexes mid new size table.indexes gone result
          → MatchResult result (λ done. AreDeleted old new size schema before table c rows after) (IsRefusedDelete c rows)
      indexed_done sized is_root new gone result means more =
          done_as new result (subst (λ (l : List TableRow). MatchResult result (λ done. HaveNow mid new size schema Before table.indexes l after) IsOutsideOrFull) left_is
          (turns (filter (stays c) rows) (shuffled_apart (parted (is_chosen c) rows) apart) schema Before after sized is_root
          (same_entries mid size schema Before table.indexes rows (filter (stays c) rows ++ filter (is_chosen c) rows) after (λ columns. shuffled_entries columns (parted (is_chosen c) rows) apart) stand)))
        where
          apart : AreApart rows
          apart = fit_apart table rows fit

          turns : TakesFromIndexes mid new size table.indexes (filter (is_chosen c) rows) result
          turns = subst (λ (rs : List TableRow). TakesFromIndexes mid new size table.indexes rs result) (sym (gone_is gone means)) more

    pub bare_taken : length table.indexes ≡ 0 → (result : Result ⊤ Fault) → TakesRows old mid size reading c found result → DeletesInTrees old mid size table (Some c) result
    bare_taken bare (Ok done) takes = λ schema before after rows sized is_root among fit.
        (let s = rows_among old size schema before table rows after among sized is_root in
        bare_done takes schema before after rows s (loads schema before after rows sized is_root among fit) fit sized is_root bare)
    bare_taken bare (Err f) takes = none_taken f (Err f) refl takes

    pub indexed_taken : (new : PageMap) (gone : List TableRow) (result : Result ⊤ Fault) → AreMeant c found gone → TakesRows old mid size reading c found (Ok tt)
        → TakesFromIndexes mid new size table.indexes gone result → DeletesInTrees old new size table (Some c) result
    indexed_taken new gone result means takes more schema before after rows sized is_root among fit =
        let s = rows_among old size schema before table rows after among sized is_root in
        indexed_done takes schema before after rows s (loads schema before after rows sized is_root among fit) fit sized is_root new gone result means more
