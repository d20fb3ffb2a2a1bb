-- What putting a row of an INSERT into its table's tree comes to.
use Rattle.std.proofs.Common.{◌≡◌, refl, sym, ap, subst, ◌∙◌, inl, inr, ◌⊎◌, ℕ, ℤ, true, List, length, Option, Some, None, Ok, Err}
use Rattle.std.proofs.lemmas.List.{length-map}
use Rattle.std.specs.List.{list_all}
use Rattle.std.specs.Prelude.{Result, MatchResult, IsErrAnd, ⊤}
use Rattle.sqlval.specs.Conversion.{is_word}
use Rattle.sqlval.specs.Refusals.{Answer, ◌then◌, refusal_of}
use Rattle.sqlval.specs.declared.fault.Fault.{Fault}
use Rattle.sqlval.specs.declared.fault.Fault.TheVariants as f
use Rattle.sqlval.specs.declared.value.Value.{Value}
use Rattle.record.specs.Writing.{AreStorable}
use Rattle.tree_leaf.specs.Leaf.{Entry}
use Rattle.pages.specs.Calls.{IsOutsideOrFull}
use Rattle.pages.specs.Map.{PageMap}
use Rattle.tree_page.specs.Cells.{Pairwise}
use Rattle.tree_table.specs.Calls.{BecomesRows, Stands}
use Rattle.tree_table.specs.Rows.{payload_at, with_row}
use Rattle.catalog.specs.Listed.{as_column, own_column, shape_of, with_rows}
use Rattle.catalog.specs.Rows.{are_rows, holds_rowid, is_row, is_value}
use Rattle.catalog.specs.declared.tables.Table.{Table}
use Rattle.catalog.specs.declared.tables.TableRow as stored
use Rattle.query_terms.specs.Outcome.{IsRefusedBy}
use Rattle.row_scan.specs.Rows.{IsRow, TableRow}
use Rattle.row_change.specs.Demands.{with_own_rowid}
use Rattle.row_change.specs.Giving.{Serves}
use Rattle.row_change.specs.Inserting.{last_rowid, own_value, row_added, rowid_given}
use Rattle.row_change.specs.NewRows.{IsWritten}
use Rattle.row_change.specs.Putting.{PutsAmong}
use Rattle.row_change.specs.Trees.{IsPutIn, PutsRow, row_put}
use Rattle.row_change.proofs.AmongRows.{fit_put, own_free, own_taken, put_pairs}
use Rattle.row_change.proofs.FitRows.{IsWordOr, last_word, row_fits, word_after}
use Rattle.row_change.proofs.OwnPlaces.{IsWithin, held_word, own_within, set_holds, set_length}
use Rattle.row_change.proofs.Rising.{both}
use Rattle.row_change.proofs.StoredRows.{RowParts, long_values, row_parts}

-- ---- the row that is put

module _ (table : Table) (places : List (Option ℕ)) (last : Option ℤ) (given : List Value) (row : TableRow) (answer : row_added table places last given ≡ Ok row) where
  parts : RowParts table places last given row
  parts = row_parts table places last given row answer

  long : length parts.values ≡ length table.columns
  long = long_values table.columns places given parts.values parts.stored

  -- its own column holds its rowid
  pub added_holds : holds_rowid (own_column table) row ≡ true
  added_holds =
      subst (λ (vs : List Value). holds_rowid (own_column table) (row.0, vs) ≡ true) parts.are
      (set_holds (own_column table) row.0 parts.values (subst (λ (n : ℕ). IsWithin n (own_column table)) (sym long) (own_within table)))

  full : length row.1 ≡ length table.columns
  full = ap length (sym parts.are) ∙ (set_length (own_column table) _ parts.values ∙ long)

  -- its record is that of a row
  added_row : (entry : Entry) → IsWritten (own_column table) row entry → IsRow (shape_of table) entry row
  added_row entry written = record { rowid = ap (λ (x : Entry). x.rowid) written.is; values = written.values; full = full; own = added_holds }

  -- its rowid is of 64 bits, where the last is
  word_given : (own : Option ℕ) → holds_rowid own row ≡ true → rowid_given last (own_value own parts.values) ≡ Ok row.0 → IsWordOr last → list_all is_value row.1 ≡ true → is_word row.0 ≡ true
  word_given None holds is word can = word_after last row.0 word is
  word_given (Some place) holds is word can = held_word place row.0 row.1 holds can

  -- where a table may hold the rows, it may hold this
  added_fits : (rows : List TableRow) → last ≡ last_rowid rows → list_all is_value row.1 ≡ true → are_rows (with_rows table rows) ≡ true → is_row (with_rows table rows) row ≡ true
  added_fits rows at can fit =
      let halves = both _ (list_all (is_row (with_rows table rows)) rows) fit in
      row_fits (with_rows table rows) row
      (word_given (own_column table) added_holds parts.rowid (subst IsWordOr (sym at) (last_word (with_rows table rows) rows halves.1)) can)
      (full ∙ sym (length-map table.columns as_column)) can added_holds

-- ---- what the calls answer

abbrev Refuses : Table → List (Option ℕ) → List TableRow → List Value → Fault → Type 0
Refuses table places rows given fault = IsOutsideOrFull fault ⊎ (row_put table places rows given ≡ Err (refusal_of fault))

module _ (old new : PageMap) (size root : ℕ) (table : Table) (places : List (Option ℕ)) (given : List Value) (last : Option ℤ) where
  pub none_put : (fault : Fault) (result : Result stored.TableRow Fault) → IsErrAnd result (λ e. e ≡ fault)
      → IsOutsideOrFull fault ⊎ (row_added table places last given ≡ Err (refusal_of fault)) → PutsRow old new size root table places given last result
  none_put fault (Ok x) same why = absurd same
  none_put fault (Err e) same why = λ rows entries used free is each at. subst (λ (g : Fault). Refuses table places rows given g) (sym same) (by rows at why)
    where
      by : (rows : List TableRow) → Serves table places given last rows → IsOutsideOrFull fault ⊎ (row_added table places last given ≡ Err (refusal_of fault)) → Refuses table places rows given fault
      by rows at (inl outside) = inl outside
      by rows at (inr why) = inr (ap (λ (a : Answer TableRow). a then λ row. with_own_rowid rows row) (sym at ∙ why))

  pub none_made : (fault : Fault) → IsRefusedBy (row_added table places last given) fault → IsOutsideOrFull fault ⊎ (row_added table places last given ≡ Err (refusal_of fault))
  none_made fault (inl memory) = inl (inl (inl memory))
  none_made fault (inr why) = inr why

  module _ (row : TableRow) (answer : row_added table places last given ≡ Ok row) where
    pub none_written : (fault : Fault) → (fault ≡ f.Memory) ⊎ ((fault ≡ f.TooLong) × (AreStorable row.1 → ⊥)) → IsOutsideOrFull fault ⊎ (row_added table places last given ≡ Err (refusal_of fault))
    none_written fault (inl memory) = inl (inl (inl memory))
    none_written fault (inr long) = absurd (long.1 (row_parts table places last given row answer).fits)

    answer_is : (rows : List TableRow) → Serves table places given last rows → row_put table places rows given ≡ with_own_rowid rows row
    answer_is rows at = ap (λ (a : Answer TableRow). a then λ row. with_own_rowid rows row) (sym at ∙ answer)

    pub row_is_put : (entry : Entry) → IsWritten (own_column table) row entry → (result : Result ⊤ Fault) → PutsAmong old new size root entry result
        → (rows : List TableRow) (entries : List Entry) (used free : List ℕ) → Stands old size root entries used free → Pairwise (IsRow (shape_of table)) entries rows → Serves table places given last rows
        → MatchResult result (λ done. IsPutIn old new size root table places given rows used free row) (Refuses table places rows given)
    row_is_put entry written result puts rows entries used free is each at = by result (puts entries used free is)
      where
        made : IsRow (shape_of table) entry row
        made = added_row table places last given row answer entry written

        by : (r : Result ⊤ Fault)
            → MatchResult r (λ done. (payload_at entry.rowid entries ≡ None) × BecomesRows old new size root (with_row entry entries) used free)
            (λ fault. IsOutsideOrFull fault ⊎ ((fault ≡ f.Unique) × (payload_at entry.rowid entries ≡ None → ⊥)))
            → MatchResult r (λ done. IsPutIn old new size root table places given rows used free row) (Refuses table places rows given)
        by (Ok done) (none, becomes) = record {
          answer = answer_is rows at ∙ own_free (shape_of table) entries rows each row (subst (λ (n : ℤ). payload_at n entries ≡ None) made.rowid none);
          entries = with_row entry entries;
          becomes = becomes;
          each = put_pairs (shape_of table) entry row made entries rows each;
          fit = fit_put table rows row (added_fits table places (last_rowid rows) given row (sym at ∙ answer) rows refl written.fit);
        }
        by (Err fault) (inl outside) = inl outside
        by (Err fault) (inr (unique, some)) =
            inr (answer_is rows at
            ∙ (own_taken (shape_of table) entries rows each row (subst (λ (n : ℤ). payload_at n entries ≡ None → ⊥) made.rowid some) ∙ ap (λ (g : Fault). Err (refusal_of g)) (sym unique)))

    pub put_failed : (entry : Entry) → IsWritten (own_column table) row entry → (fault : Fault) (result : Result stored.TableRow Fault) → IsErrAnd result (λ e. e ≡ fault) → PutsAmong old new size root entry (Err fault)
        → PutsRow old new size root table places given last result
    put_failed entry written fault (Ok x) same puts = absurd same
    put_failed entry written fault (Err e) same puts = λ rows entries used free is each at.
        subst (λ (g : Fault). Refuses table places rows given g) (sym same) (row_is_put entry written (Err fault) puts rows entries used free is each at)

    -- the row that is answered is the same
    pub put_so : (entry : Entry) (now : stored.TableRow) → IsWritten (own_column table) row entry → (now.rowid, now.values.items) ≡ row → PutsAmong old new size root entry (Ok tt) → PutsRow old new size root table places given last (Ok now)
    put_so entry now written same puts rows entries used free is each at =
        subst (λ (r : TableRow). IsPutIn old new size root table places given rows used free r) (sym same) (row_is_put entry written (Ok tt) puts rows entries used free is each at)
