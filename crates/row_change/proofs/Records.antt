-- The records of rows, one after another.
use Rattle.std.proofs.Common.{◌≡◌, ◌⊎◌, inl, inr, ℕ, zero, suc, ℤ, ◌+◌, ◌<◌, ◌≤◌, true, List, [], ◌∷◌, ◌++◌, Option, SFits, w64, length, map, drop, take, slice_index_or, slice_set, refl, sym, ap, subst, ◌∙◌, arith}
use Rattle.std.proofs.lemmas.Int.{ints}
use Rattle.std.proofs.lemmas.List.{map_push, take_more, take-append-le, get_or-map, length-map}
use Rattle.std.specs.List.{list_all}
use Rattle.sqlval.specs.Conversion.{is_word}
use Rattle.sqlval.specs.declared.fault.Fault.{Fault}
use Rattle.sqlval.specs.declared.fault.Fault.TheVariants as f
use Rattle.sqlval.specs.declared.value.Value.{Value}
use Rattle.sqlval.specs.declared.value.Value.TheVariants.{Null, Int}
use Rattle.record.specs.Record.{IsRecord}
use Rattle.record.specs.Writing.{AreStorable, record_of}
use Rattle.tree_leaf.specs.Leaf.{Entry}
use Rattle.tree_page.specs.Cells.{Pairwise}
use Rattle.tree_table.specs.declared.changing.RowChange.{RowChange}
use Rattle.catalog.specs.Rows.{holds_rowid, in_record, is_value}
use Rattle.catalog.specs.declared.tables.TableRow as stored
use Rattle.row_scan.specs.Rows.{TableRow}
use Rattle.row_change.specs.Inserting.{AllStorable, entry_for, with_own_value}
use Rattle.row_change.specs.NewRows.{IsWritten, all_hold, entry_left, row_of}
use Rattle.row_change.proofs.OwnPlaces.{row_values, set_again}
use Rattle.row_change.proofs.Rising.{both}

pub pairwise_push : {A B : Type 0} (P : A → B → Type 0) (xs : List A) (ys : List B) (x : A) (y : B) → Pairwise P xs ys → P x y → Pairwise P (xs ++ x ∷ []) (ys ++ y ∷ [])
pairwise_push P [] [] x y all one = (one, tt)
pairwise_push P [] (y' ∷ ys) x y all one = absurd all
pairwise_push P (x' ∷ xs) [] x y all one = absurd all
pairwise_push P (x' ∷ xs) (y' ∷ ys) x y all one = (all.0, pairwise_push P xs ys x y all.1 one)

-- ---- rows one after another

-- each of some rows holds its rowid
one_holds : (own : Option ℕ) (rows : List TableRow) (i : ℕ) (row : TableRow) → i < length rows → all_hold own rows ≡ true → holds_rowid own (slice_index_or rows i row) ≡ true
one_holds own [] i row lt all = absurd (omega (arith, lt))
one_holds own (r ∷ rows) zero row lt all = (both (holds_rowid own r) (all_hold own rows) all).0
one_holds own (r ∷ rows) (suc i) row lt all = one_holds own rows i row (omega (arith, lt)) (both (holds_rowid own r) (all_hold own rows) all).1

-- a row that is as it was leaves the rows as they were
set_same : (rows : List stored.TableRow) (i : ℕ) (row new : stored.TableRow) → row ≡ slice_index_or rows i row → row_of new ≡ row_of row → map row_of (slice_set rows i new) ≡ map row_of rows
set_same [] i row new is same = refl
set_same (r ∷ rows) zero row new is same = ap (λ (x : TableRow). x ∷ map row_of rows) (same ∙ ap row_of is)
set_same (r ∷ rows) (suc i) row new is same = ap (λ (xs : List TableRow). row_of r ∷ xs) (set_same rows i row new is same)

-- the records of one row more
pairs_on : {A S B : Type 0} (P : A → B → Type 0) (h : S → B) (xs : List A) (i : ℕ) (x : A) (records : List S) (made : S) → i < length xs → x ≡ slice_index_or xs i x
    → P x (h made) → Pairwise P (take i xs) (map h records) → Pairwise P (take (i + 1) xs) (map h (records ++ made ∷ []))
pairs_on P h xs i x records made lt is one so_far =
    let further : take (i + 1) xs ≡ take i xs ++ x ∷ [] = take_more xs i x lt ∙ ap (λ r. take i xs ++ r ∷ []) (sym is) in
    subst (λ ys. Pairwise P ys (map h (records ++ made ∷ []))) (sym further)
    (subst (λ ys. Pairwise P (take i xs ++ x ∷ []) ys) (sym (map_push h records made)) (pairwise_push P (take i xs) (map h records) x (h made) so_far one))

all_taken : {A : Type 0} (xs : List A) (i : ℕ) → length xs ≤ i → take i xs ≡ xs
all_taken [] zero le = refl
all_taken [] (suc i) le = refl
all_taken (x ∷ xs) zero le = absurd (omega (arith, le))
all_taken (x ∷ xs) (suc i) le = ap (λ ys. x ∷ ys) (all_taken xs i (omega (arith, le)))

-- what a slice that is as long is written back to
pub written_back : {A : Type 0} (n : ℕ) (xs ys : List A) → length xs ≡ n → take n (xs ++ drop (length xs) ys) ≡ xs
written_back n xs ys long = take-append-le n xs (drop (length xs) ys) (omega (arith, long)) ∙ all_taken xs n (omega (arith, long))

-- Where each row holds its rowid, they are as they were, and of so many there are the records.
abbrev pub AreWrittenSoFar : Option ℕ → List TableRow → List TableRow → ℕ → List Entry → Type 0
AreWrittenSoFar own olds now i entries = all_hold own olds ≡ true → (now ≡ olds) × Pairwise (IsWritten own) (take i olds) entries

pub all_written : (own : Option ℕ) (olds now : List TableRow) (i : ℕ) (entries : List Entry) → length olds ≤ i → AreWrittenSoFar own olds now i entries → all_hold own olds ≡ true → Pairwise (IsWritten own) olds entries
all_written own olds now i entries le so_far all = subst (λ rows. Pairwise (IsWritten own) rows entries) (all_taken olds i le) (so_far all).1

module _ (own : Option ℕ) (olds : List TableRow) (rows : List stored.TableRow) (i : ℕ) (row : stored.TableRow) (lt : i < length olds) (at : row ≡ slice_index_or rows i row) where
  same_row : map row_of rows ≡ olds → row_of row ≡ slice_index_or olds i (row_of row)
  same_row same =
      let long : length rows ≡ length olds = sym (length-map rows row_of) ∙ ap length same in
      ap row_of at ∙ (sym (get_or-map row_of rows i row (row_of row) (omega (arith, lt, long))) ∙ ap (λ (l : List TableRow). slice_index_or l i (row_of row)) same)

  pub written_on : (new : stored.TableRow) (records : List RowChange) (made : RowChange) → (holds_rowid own (row_of row) ≡ true → IsWritten own (row_of row) (entry_left made))
      → (holds_rowid own (row_of row) ≡ true → row_of new ≡ row_of row) → AreWrittenSoFar own olds (map row_of rows) i (map entry_left records)
      → AreWrittenSoFar own olds (map row_of (slice_set rows i new)) (i + 1) (map entry_left (records ++ made ∷ []))
  written_on new records made writes keeps so_far all =
      let before = so_far all in
      let is = same_row before.0 in
      let holds : holds_rowid own (row_of row) ≡ true = ap (holds_rowid own) is ∙ one_holds own olds i (row_of row) lt all in
      (set_same rows i row new at (keeps holds) ∙ before.0, pairs_on (IsWritten own) entry_left olds i (row_of row) records made lt is (writes holds) before.1)

  -- one row that no record can hold is among them
  pub one_too_long : (entries : List Entry) (fault : Fault) → (fault ≡ f.Memory) ⊎ ((fault ≡ f.TooLong) × (AreStorable (row_of row).1 → ⊥)) → AreWrittenSoFar own olds (map row_of rows) i entries
      → all_hold own olds ≡ true → (fault ≡ f.Memory) ⊎ ((fault ≡ f.TooLong) × (AllStorable olds → ⊥))
  one_too_long entries fault (inl e) so_far all = inl e
  one_too_long entries fault (inr (e, long)) so_far all = inr (e, λ can. long (subst (λ (r : TableRow). AreStorable r.1) (sym (same_row (so_far all).0)) (can i (row_of row) lt)))

-- ---- the record of one row

pub word_fits : (n : ℤ) → SFits w64 n → is_word n ≡ true
word_fits n fits = grind (arith, ints)

-- a record of the values with NULL in the place of the rowid is that of the row
pub written_so : (own : Option ℕ) (n m : ℤ) (values seen : List Value) (payload : List ℕ) → m ≡ n → seen ≡ in_record own values → IsRecord payload seen → payload ≡ record_of seen → list_all is_value seen ≡ true → is_word n ≡ true
    → holds_rowid own (n, values) ≡ true → IsWritten own (n, values) (record { rowid = m; payload = payload })
written_so own n m values seen payload same null is exact fit word holds = record {
  is = entry_is;
  values = subst (IsRecord payload) null is;
  fit = row_values own n values word holds (ap (list_all is_value) (sym null) ∙ fit);
}
  where
    entry_is : record { rowid = m; payload = payload } ≡ entry_for own (n, values)
    entry_is = (let bytes : payload ≡ record_of (in_record own values) = exact ∙ ap record_of null in λ i. record { rowid = same i; payload = bytes i })

-- the row is as it was, with its rowid set again
pub row_kept : (own : Option ℕ) (n m : ℤ) (values null now : List Value) → m ≡ n → null ≡ with_own_value own Null values → now ≡ with_own_value own (Int m) null → holds_rowid own (n, values) ≡ true → now ≡ values
row_kept own n m values null now same is back holds = back ∙ (ap (λ (k : ℤ). with_own_value own (Int k) null) same ∙ (ap (with_own_value own (Int n)) is ∙ set_again own n values holds))

-- what is so of a row that holds its rowid, by the place of the table's own column
pub at_own : (X : Option ℕ → Type 0) (o own : Option ℕ) (row : TableRow) → o ≡ own → (holds_rowid o row ≡ true → X o) → holds_rowid own row ≡ true → X own
at_own X o own row same so = subst (λ (place : Option ℕ). holds_rowid place row ≡ true → X place) same so

-- the same of rows
pub all_at_own : (X : Option ℕ → Type 0) (o own : Option ℕ) (rows : List TableRow) → o ≡ own → (all_hold o rows ≡ true → X o) → all_hold own rows ≡ true → X own
all_at_own X o own rows same so = subst (λ (place : Option ℕ). all_hold place rows ≡ true → X place) same so
