-- The rows of a table and the entries of its tree, in which one is put, or of which one is taken.
use Rattle.std.proofs.Common.{◌≡◌, ◌⊎◌, inl, inr, refl, sym, ap, subst, ◌∙◌, ◌<ℤ◌, ◌≤ℤ◌, ℕ, ℤ, Bool, true, false, cond, if◌then◌else◌, List, [], ◌∷◌, ◌++◌, map, Option, Some, None, is_none, Ok, Err, arith}
use Rattle.std.specs.Cmp.{int_cmp_is}
use Rattle.std.specs.FinMap.Entries.{by_order, find, put}
use Rattle.std.specs.List.{list_all}
use Rattle.std.specs.Ordering.{eq_by_cmp, int_cmp, int_eq, is_eq}
use Rattle.std.specs.Prelude.{int_lt}
use Rattle.std.specs.declared.cmp.Ordering.{Ordering}
use Rattle.std.specs.declared.cmp.Ordering.TheVariants.{Equal, Greater, Less}
use Rattle.sqlval.specs.Lists.{is_rising}
use Rattle.sqlval.specs.Refusals.{Unique, ◌then◌}
use Rattle.sqlval.specs.declared.value.Value.{Value}
use Rattle.tree_leaf.specs.Leaf.{Entry}
use Rattle.tree_page.specs.Cells.{Pairwise}
use Rattle.tree_table.specs.Rows.{payload_at, with_replaced, with_row, without_row}
use Rattle.tree_table.proofs.Orders.{greater_not, less_not, less_or_not, lt_le, not_less, same_or_other}
use Rattle.catalog.specs.Listed.{with_rows}
use Rattle.catalog.specs.Rows.{are_rows, is_row}
use Rattle.catalog.specs.declared.tables.RowShape.{RowShape}
use Rattle.catalog.specs.declared.tables.Table.{Table}
use Rattle.row_scan.specs.Rows.{IsRow, TableRow}
use Rattle.row_scan.proofs.RowOrder.{both_true}
use Rattle.row_change.specs.Constraints.{demand}
use Rattle.row_change.specs.Demands.{with_own_rowid}
use Rattle.row_change.specs.Trees.{FitNow}
use Rattle.row_change.proofs.FitRows.{rises_rising}
use Rattle.row_change.proofs.Rising.{Climbs, Rises, both, fit_rows_rise, further}

-- ---- two rowids

abbrev IsLess : ℤ → ℤ → Type 0
IsLess a b = (int_lt a b ≡ true) × (int_cmp a b ≡ Less) × (a <ℤ b)

abbrev IsSame : ℤ → ℤ → Type 0
IsSame a b = (int_lt a b ≡ false) × (int_eq a b ≡ true) × (int_cmp a b ≡ Equal) × (a ≡ b)

abbrev IsMore : ℤ → ℤ → Type 0
IsMore a b = (int_lt a b ≡ false) × (int_eq a b ≡ false) × (int_cmp a b ≡ Greater) × (b <ℤ a)

one_of_two : (a b : ℤ) → a ≤ℤ b → b ≤ℤ a → a ≡ b
one_of_two a b le ge = grind (arith)

after_other : (a b : ℤ) → b ≤ℤ a → (a ≡ b → ⊥) → b <ℤ a
after_other a b le other = elim (less_or_not b a) [
  | inl h ↦ h.1
  | inr h ↦ absurd (other (one_of_two a b h.1 le))
]

compared : (a b : ℤ) → IsLess a b ⊎ (IsSame a b ⊎ IsMore a b)
compared a b = elim (less_or_not a b) [
  | inl h ↦ inl (h.0, sym (int_cmp_is a b Less h.1), h.1)
  | inr h ↦ elim (same_or_other a b) [
    | inl k ↦ inr (inl (h.0, k.0, sym (int_cmp_is a b Equal k.1), k.1))
    | inr k ↦ inr (inr (h.0, k.0, sym (int_cmp_is a b Greater (after_other a b h.1 k.1)), after_other a b h.1 k.1))
  ]
]

eq_of : (a b : ℤ) → a ≡ b → int_eq a b ≡ true
eq_of a b same = elim (same_or_other a b) [ inl h ↦ h.0 | inr h ↦ absurd (h.1 same) ]

-- the two tests are one
eq_tests : (a b : ℤ) → eq_by_cmp int_cmp a b ≡ int_eq b a
eq_tests a b = elim (compared a b) [
  | inl h ↦ ap is_eq h.1 ∙ sym (greater_not b a h.2)
  | inr (inl h) ↦ ap is_eq h.2 ∙ sym (eq_of b a (sym h.3))
  | inr (inr h) ↦ ap is_eq h.2 ∙ sym (less_not b a h.3)
]

-- ---- a rowid that is free

pub none_alike : (shape : RowShape) (rowid : ℤ) (entries : List Entry) (rows : List TableRow) → Pairwise (IsRow shape) entries rows → is_none (find int_cmp rowid rows) ≡ is_none (payload_at rowid entries)
none_alike shape rowid [] [] each = refl
none_alike shape rowid [] (row ∷ rows) each = absurd each
none_alike shape rowid (entry ∷ entries) [] each = absurd each
none_alike shape rowid (entry ∷ entries) (row ∷ rows) each =
    ap (λ (b : Bool). is_none (cond b (Some row.1) (find int_cmp rowid rows))) (eq_tests rowid row.0 ∙ ap (λ (n : ℤ). int_eq n rowid) (sym each.0.rowid))
    ∙ by (int_eq entry.rowid rowid) (none_alike shape rowid entries rows each.1)
  where
    by : (b : Bool) → is_none (find int_cmp rowid rows) ≡ is_none (payload_at rowid entries)
        → is_none (cond b (Some row.1) (find int_cmp rowid rows)) ≡ is_none (if b then Some entry.payload else payload_at rowid entries)
    by true more = refl
    by false more = more

module _ (shape : RowShape) (entries : List Entry) (rows : List TableRow) (each : Pairwise (IsRow shape) entries rows) (row : TableRow) where
  -- a row whose rowid no entry has
  pub own_free : payload_at row.0 entries ≡ None → with_own_rowid rows row ≡ Ok row
  own_free none = ap (λ (b : Bool). demand b Unique then λ _. Ok row) (none_alike shape row.0 entries rows each ∙ ap is_none none)

  -- and one whose rowid one has
  pub own_taken : (payload_at row.0 entries ≡ None → ⊥) → with_own_rowid rows row ≡ Err Unique
  own_taken some = ap (λ (b : Bool). demand b Unique then λ _. Ok row) (none_alike shape row.0 entries rows each ∙ by (payload_at row.0 entries) some)
    where
      by : (o : Option (List ℕ)) → (o ≡ None → ⊥) → is_none o ≡ false
      by None some = absurd (some refl)
      by (Some payload) some = refl

-- ---- a row is put among rows

abbrev put_by : ℤ → List Value → TableRow → List TableRow → Ordering → List TableRow
put_by k values r rows o = by_order o ((k, values) ∷ r ∷ rows) ((r.0, values) ∷ rows) (r ∷ put int_cmp k values rows)

abbrev entries_by : Entry → Entry → List Entry → Bool → Bool → List Entry
entries_by entry e entries less same = if less then entry ∷ e ∷ entries else (if same then entry ∷ entries else e ∷ with_row entry entries)

pub put_pairs : (shape : RowShape) (entry : Entry) (row : TableRow) → IsRow shape entry row → (entries : List Entry) (rows : List TableRow) → Pairwise (IsRow shape) entries rows
    → Pairwise (IsRow shape) (with_row entry entries) (put int_cmp row.0 row.1 rows)
put_pairs shape entry row is [] [] each = (is, tt)
put_pairs shape entry row is [] (r ∷ rows) each = absurd each
put_pairs shape entry row is (e ∷ entries) [] each = absurd each
put_pairs shape entry row is (e ∷ entries) (r ∷ rows) each = by (compared row.0 r.0) (put_pairs shape entry row is entries rows each.1)
  where
    less_is : int_lt entry.rowid e.rowid ≡ int_lt row.0 r.0
    less_is = ap (λ (n : ℤ). int_lt n e.rowid) is.rowid ∙ ap (λ (n : ℤ). int_lt row.0 n) each.0.rowid

    same_is : int_eq entry.rowid e.rowid ≡ int_eq row.0 r.0
    same_is = ap (λ (n : ℤ). int_eq n e.rowid) is.rowid ∙ ap (λ (n : ℤ). int_eq row.0 n) each.0.rowid

    placed : (less same : Bool) (o : Ordering) → int_lt row.0 r.0 ≡ less → int_eq row.0 r.0 ≡ same → int_cmp row.0 r.0 ≡ o → Pairwise (IsRow shape) (entries_by entry e entries less same) (put_by row.0 row.1 r rows o)
        → Pairwise (IsRow shape) (with_row entry (e ∷ entries)) (put int_cmp row.0 row.1 (r ∷ rows))
    placed less same o a b c pairs =
        subst (λ (l : Bool). Pairwise (IsRow shape) (entries_by entry e entries l (int_eq entry.rowid e.rowid)) (put_by row.0 row.1 r rows (int_cmp row.0 r.0))) (sym (less_is ∙ a))
        (subst (λ (s : Bool). Pairwise (IsRow shape) (entries_by entry e entries less s) (put_by row.0 row.1 r rows (int_cmp row.0 r.0))) (sym (same_is ∙ b))
        (subst (λ (q : Ordering). Pairwise (IsRow shape) (entries_by entry e entries less same) (put_by row.0 row.1 r rows q)) (sym c) pairs))

    by : IsLess row.0 r.0 ⊎ (IsSame row.0 r.0 ⊎ IsMore row.0 r.0) → Pairwise (IsRow shape) (with_row entry entries) (put int_cmp row.0 row.1 rows)
        → Pairwise (IsRow shape) (with_row entry (e ∷ entries)) (put int_cmp row.0 row.1 (r ∷ rows))
    by (inl h) more = placed true (int_eq row.0 r.0) Less h.0 refl h.1 (is, each)
    by (inr (inl h)) more = placed false true Equal h.0 h.1 h.2 (subst (λ (n : ℤ). IsRow shape entry (n, row.1)) h.3 is, each.1)
    by (inr (inr h)) more = placed false false Greater h.0 h.1 h.2 (each.0, more)

climbs_put : (low k : ℤ) (values : List Value) (rows : List TableRow) → low <ℤ k → Climbs low rows → Climbs low (put int_cmp k values rows)
climbs_put low k values [] lt climb = (lt, tt)
climbs_put low k values (r ∷ rows) lt climb = by (compared k r.0) (λ less. climbs_put r.0 k values rows less climb.1)
  where
    by : IsLess k r.0 ⊎ (IsSame k r.0 ⊎ IsMore k r.0) → (r.0 <ℤ k → Climbs r.0 (put int_cmp k values rows)) → Climbs low (put int_cmp k values (r ∷ rows))
    by (inl h) more = subst (λ (o : Ordering). Climbs low (put_by k values r rows o)) (sym h.1) (lt, (h.2, climb.1))
    by (inr (inl h)) more = subst (λ (o : Ordering). Climbs low (put_by k values r rows o)) (sym h.2) (climb.0, climb.1)
    by (inr (inr h)) more = subst (λ (o : Ordering). Climbs low (put_by k values r rows o)) (sym h.2) (climb.0, more h.3)

pub rises_put : (k : ℤ) (values : List Value) (rows : List TableRow) → Rises rows → Rises (put int_cmp k values rows)
rises_put k values [] rises = tt
rises_put k values (r ∷ rows) rises = by (compared k r.0)
  where
    by : IsLess k r.0 ⊎ (IsSame k r.0 ⊎ IsMore k r.0) → Rises (put int_cmp k values (r ∷ rows))
    by (inl h) = subst (λ (o : Ordering). Rises (put_by k values r rows o)) (sym h.1) (h.2, rises)
    by (inr (inl h)) = subst (λ (o : Ordering). Rises (put_by k values r rows o)) (sym h.2) rises
    by (inr (inr h)) = subst (λ (o : Ordering). Rises (put_by k values r rows o)) (sym h.2) (climbs_put r.0 k values rows h.3 rises)

pub all_put : (p : TableRow → Bool) (k : ℤ) (values : List Value) (rows : List TableRow) → p (k, values) ≡ true → list_all p rows ≡ true → list_all p (put int_cmp k values rows) ≡ true
all_put p k values [] one all = both_true (p (k, values)) true one refl
all_put p k values (r ∷ rows) one all = (let parts = both (p r) (list_all p rows) all in by parts.0 parts.1 (compared k r.0) (all_put p k values rows one parts.1))
  where
    by : p r ≡ true → list_all p rows ≡ true → IsLess k r.0 ⊎ (IsSame k r.0 ⊎ IsMore k r.0) → list_all p (put int_cmp k values rows) ≡ true → list_all p (put int_cmp k values (r ∷ rows)) ≡ true
    by first rest (inl h) more = ap (λ (o : Ordering). list_all p (put_by k values r rows o)) h.1 ∙ both_true (p (k, values)) (list_all p (r ∷ rows)) one (both_true (p r) (list_all p rows) first rest)
    by first rest (inr (inl h)) more =
        ap (λ (o : Ordering). list_all p (put_by k values r rows o)) h.2 ∙ both_true (p (r.0, values)) (list_all p rows) (subst (λ (n : ℤ). p (n, values) ≡ true) h.3 one) rest
    by first rest (inr (inr h)) more = ap (λ (o : Ordering). list_all p (put_by k values r rows o)) h.2 ∙ both_true (p r) (list_all p (put int_cmp k values rows)) first more

abbrev rowids_in : List TableRow → List ℤ
rowids_in rows = map (λ row. row.0) rows

-- where a table may hold the rows, and the row that is put among them
pub fit_put : (table : Table) (rows : List TableRow) (row : TableRow) → (are_rows (with_rows table rows) ≡ true → is_row (with_rows table rows) row ≡ true) → FitNow table rows (put int_cmp row.0 row.1 rows)
fit_put table rows row one fit =
    let parts = both (is_rising int_cmp (rowids_in rows)) (list_all (is_row (with_rows table rows)) rows) fit in
    both_true (is_rising int_cmp (rowids_in (put int_cmp row.0 row.1 rows))) (list_all (is_row (with_rows table rows)) (put int_cmp row.0 row.1 rows))
    (rises_rising (put int_cmp row.0 row.1 rows) (rises_put row.0 row.1 rows (fit_rows_rise (with_rows table rows) fit)))
    (all_put (is_row (with_rows table rows)) row.0 row.1 rows (one fit) parts.1)

-- ---- a row is taken out

lower : (low mid : ℤ) (rows : List TableRow) → low <ℤ mid → Climbs mid rows → Climbs low rows
lower low mid [] lt climb = tt
lower low mid (row ∷ rows) lt climb = (further low mid row.0 lt climb.0, climb.1)

rest_rises : (row : TableRow) (rows : List TableRow) → Climbs row.0 rows → Rises rows
rest_rises row [] climb = tt
rest_rises row (next ∷ rows) climb = climb.1

climbs_to : (low : ℤ) (before : List TableRow) (row : TableRow) (after : List TableRow) → Climbs low (before ++ row ∷ after) → low <ℤ row.0
climbs_to low [] row after climb = climb.0
climbs_to low (k ∷ before) row after climb = further low k.0 row.0 climb.0 (climbs_to k.0 before row after climb.1)

climbs_without : (low : ℤ) (before : List TableRow) (row : TableRow) (after : List TableRow) → Climbs low (before ++ row ∷ after) → Climbs low (before ++ after)
climbs_without low [] row after climb = lower low row.0 after climb.0 climb.1
climbs_without low (k ∷ before) row after climb = (climb.0, climbs_without k.0 before row after climb.1)

pub rises_without : (before : List TableRow) (row : TableRow) (after : List TableRow) → Rises (before ++ row ∷ after) → Rises (before ++ after)
rises_without [] row after rises = rest_rises row after rises
rises_without (k ∷ before) row after rises = climbs_without k.0 before row after rises

all_without : (p : TableRow → Bool) (before : List TableRow) (row : TableRow) (after : List TableRow) → list_all p (before ++ row ∷ after) ≡ true → list_all p (before ++ after) ≡ true
all_without p [] row after all = (both (p row) (list_all p after) all).1
all_without p (k ∷ before) row after all =
    let parts = both (p k) (list_all p (before ++ row ∷ after)) all in both_true (p k) (list_all p (before ++ after)) parts.0 (all_without p before row after parts.1)

pub one_of_all : (p : TableRow → Bool) (before : List TableRow) (row : TableRow) (after : List TableRow) → list_all p (before ++ row ∷ after) ≡ true → p row ≡ true
one_of_all p [] row after all = (both (p row) (list_all p after) all).0
one_of_all p (k ∷ before) row after all = one_of_all p before row after (both (p k) (list_all p (before ++ row ∷ after)) all).1

pub fit_without : (table : Table) (before : List TableRow) (row : TableRow) (after : List TableRow) → FitNow table (before ++ row ∷ after) (before ++ after)
fit_without table before row after fit =
    let rows = before ++ row ∷ after in
    let parts = both (is_rising int_cmp (rowids_in rows)) (list_all (is_row (with_rows table rows)) rows) fit in
    both_true (is_rising int_cmp (rowids_in (before ++ after))) (list_all (is_row (with_rows table rows)) (before ++ after))
    (rises_rising (before ++ after) (rises_without before row after (fit_rows_rise (with_rows table rows) fit)))
    (all_without (is_row (with_rows table rows)) before row after parts.1)

-- an entry of the row is there
pub is_there : (shape : RowShape) (before : List TableRow) (row : TableRow) (after : List TableRow) (entries : List Entry) → Pairwise (IsRow shape) entries (before ++ row ∷ after) → payload_at row.0 entries ≡ None → ⊥
is_there shape [] row after [] each none = absurd each
is_there shape [] row after (entry ∷ entries) each none = no_none entry.payload (ap (λ (b : Bool). if b then Some entry.payload else payload_at row.0 entries) (sym (eq_of entry.rowid row.0 each.0.rowid)) ∙ none)
  where
    no_none : (payload : List ℕ) → Some payload ≡ None → ⊥
    no_none payload e = absurd cc
is_there shape (k ∷ before) row after [] each none = absurd each
is_there shape (k ∷ before) row after (entry ∷ entries) each none = by (int_eq entry.rowid row.0) (is_there shape before row after entries each.1) none
  where
    by : (b : Bool) → (payload_at row.0 entries ≡ None → ⊥) → (if b then Some entry.payload else payload_at row.0 entries) ≡ None → ⊥
    by true rest e = absurd cc
    by false rest e = rest e

gone_here : (first : Entry) (entries : List Entry) (rowid : ℤ) → first.rowid ≡ rowid → without_row rowid (first ∷ entries) ≡ entries
gone_here first entries rowid same = ap (λ (b : Bool). if b then entries else first ∷ without_row rowid entries) (eq_of first.rowid rowid same)

gone_later : (first : Entry) (entries : List Entry) (rowid : ℤ) → first.rowid <ℤ rowid → without_row rowid (first ∷ entries) ≡ first ∷ without_row rowid entries
gone_later first entries rowid lt = ap (λ (b : Bool). if b then entries else first ∷ without_row rowid entries) (less_not first.rowid rowid lt)

pub without_pairs : (shape : RowShape) (before : List TableRow) (row : TableRow) (after : List TableRow) (entries : List Entry) → Pairwise (IsRow shape) entries (before ++ row ∷ after) → Rises (before ++ row ∷ after)
    → Pairwise (IsRow shape) (without_row row.0 entries) (before ++ after)
without_pairs shape [] row after [] each rises = absurd each
without_pairs shape [] row after (entry ∷ entries) each rises = subst (λ (es : List Entry). Pairwise (IsRow shape) es after) (sym (gone_here entry entries row.0 each.0.rowid)) each.1
without_pairs shape (k ∷ before) row after [] each rises = absurd each
without_pairs shape (k ∷ before) row after (entry ∷ entries) each rises =
    subst (λ (es : List Entry). Pairwise (IsRow shape) es (k ∷ before ++ after))
    (sym (gone_later entry entries row.0 (subst (λ (n : ℤ). n <ℤ row.0) (sym each.0.rowid) (climbs_to k.0 before row after rises))))
    (each.0, without_pairs shape before row after entries each.1 (rest_rises k (before ++ row ∷ after) rises))

-- ---- a row is put in the place of one

find_above : (n : ℤ) (rows : List TableRow) → Climbs n rows → find int_cmp n rows ≡ None
find_above n [] climb = refl
find_above n (row ∷ rows) climb =
    ap (λ (o : Ordering). cond (is_eq o) (Some row.1) (find int_cmp n rows)) (sym (int_cmp_is n row.0 Less climb.0)) ∙ find_above n rows (lower n row.0 rows climb.0 climb.1)

-- none of the others has the rowid of the row
pub find_others : (before : List TableRow) (row : TableRow) (after : List TableRow) → Rises (before ++ row ∷ after) → find int_cmp row.0 (before ++ after) ≡ None
find_others [] row after rises = find_above row.0 after rises
find_others (k ∷ before) row after rises =
    ap (λ (o : Ordering). cond (is_eq o) (Some k.1) (find int_cmp row.0 (before ++ after))) (sym (int_cmp_is row.0 k.0 Greater (climbs_to k.0 before row after rises)))
    ∙ find_others before row after (rest_rises k (before ++ row ∷ after) rises)

abbrev replaced_by : Entry → Entry → List Entry → Bool → Bool → Bool → List Entry
replaced_by m first rest there less same =
    elim (if there then Some first.payload else payload_at m.rowid rest) [
      | None ↦ first ∷ rest
      | Some payload ↦ (if less then m ∷ first ∷ rest else (if same then m ∷ rest else first ∷ with_row m rest))
    ]

tested : (m first : Entry) (rest : List Entry) (there less same : Bool) → int_eq first.rowid m.rowid ≡ there → int_lt m.rowid first.rowid ≡ less → int_eq m.rowid first.rowid ≡ same
    → with_replaced m (first ∷ rest) ≡ replaced_by m first rest there less same
tested m first rest there less same e h k =
    ap (λ (b : Bool). replaced_by m first rest b (int_lt m.rowid first.rowid) (int_eq m.rowid first.rowid)) e
    ∙ (ap (λ (b : Bool). replaced_by m first rest there b (int_eq m.rowid first.rowid)) h ∙ ap (λ (b : Bool). replaced_by m first rest there less b) k)

-- a row of a greater rowid leaves the first
pub stays_before : (m first : Entry) (rest : List Entry) → first.rowid <ℤ m.rowid → with_replaced m (first ∷ rest) ≡ first ∷ with_replaced m rest
stays_before m first rest lt =
    tested m first rest false false false (less_not first.rowid m.rowid lt) (not_less m.rowid first.rowid (lt_le first.rowid m.rowid lt)) (greater_not m.rowid first.rowid lt) ∙ by (payload_at m.rowid rest)
  where
    by : (o : Option (List ℕ)) → elim o [ None ↦ first ∷ rest | Some payload ↦ first ∷ with_row m rest ] ≡ first ∷ elim o [ None ↦ rest | Some payload ↦ with_row m rest ]
    by None = refl
    by (Some payload) = refl

-- one of the same rowid comes in the place of the first
pub in_place : (m first : Entry) (rest : List Entry) → first.rowid ≡ m.rowid → with_replaced m (first ∷ rest) ≡ m ∷ rest
in_place m first rest same = tested m first rest true false true (eq_of first.rowid m.rowid same) (not_less m.rowid first.rowid (at_most first.rowid m.rowid same)) (eq_of m.rowid first.rowid (sym same))
  where
    at_most : (a b : ℤ) → a ≡ b → a ≤ℤ b
    at_most a b same = grind (arith)

with_later : (m first : Entry) (rest : List Entry) → first.rowid <ℤ m.rowid → with_row m (first ∷ rest) ≡ first ∷ with_row m rest
with_later m first rest lt =
    ap (λ (b : Bool). if b then m ∷ first ∷ rest else (if int_eq m.rowid first.rowid then m ∷ rest else first ∷ with_row m rest)) (not_less m.rowid first.rowid (lt_le first.rowid m.rowid lt))
    ∙ ap (λ (b : Bool). if b then m ∷ rest else first ∷ with_row m rest) (greater_not m.rowid first.rowid lt)

-- to replace a row is to take it out and to put the other among the rest
pub replaced_moves : (shape : RowShape) (m : Entry) (before : List TableRow) (row : TableRow) (after : List TableRow) (entries : List Entry) → Pairwise (IsRow shape) entries (before ++ row ∷ after) → Rises (before ++ row ∷ after) → m.rowid ≡ row.0
    → with_replaced m entries ≡ with_row m (without_row row.0 entries)
replaced_moves shape m [] row after [] each rises at = absurd each
replaced_moves shape m [] row after (entry ∷ entries) each rises at =
    in_place m entry entries (each.0.rowid ∙ sym at) ∙ (sym (comes_first after entries each.1 rises) ∙ ap (with_row m) (sym (gone_here entry entries row.0 each.0.rowid)))
  where
    comes_first : (after : List TableRow) (entries : List Entry) → Pairwise (IsRow shape) entries after → Climbs row.0 after → with_row m entries ≡ m ∷ entries
    comes_first after [] each climb = refl
    comes_first [] (e ∷ es) each climb = absurd each
    comes_first (r ∷ rs) (e ∷ es) each climb = ap (λ (b : Bool). if b then m ∷ e ∷ es else (if int_eq m.rowid e.rowid then m ∷ es else e ∷ with_row m es)) (less (less_or_not m.rowid e.rowid))
      where
        lt : m.rowid <ℤ e.rowid
        lt = subst (λ (n : ℤ). n <ℤ e.rowid) (sym at) (subst (λ (n : ℤ). row.0 <ℤ n) (sym each.0.rowid) climb.0)

        less : ((int_lt m.rowid e.rowid ≡ true) × (m.rowid <ℤ e.rowid)) ⊎ ((int_lt m.rowid e.rowid ≡ false) × (e.rowid ≤ℤ m.rowid)) → int_lt m.rowid e.rowid ≡ true
        less (inl h) = h.0
        less (inr h) = absurd (both_ways m.rowid e.rowid lt h.1)
          where
            both_ways : (a b : ℤ) → a <ℤ b → b ≤ℤ a → ⊥
            both_ways a b lt le = grind (arith)
replaced_moves shape m (k ∷ before) row after [] each rises at = absurd each
replaced_moves shape m (k ∷ before) row after (entry ∷ entries) each rises at =
    stays_before m entry entries here
    ∙ (ap (λ (es : List Entry). entry ∷ es) (replaced_moves shape m before row after entries each.1 (rest_rises k (before ++ row ∷ after) rises) at)
    ∙ (sym (with_later m entry (without_row row.0 entries) here) ∙ ap (with_row m) (sym (gone_later entry entries row.0 there))))
  where
    there : entry.rowid <ℤ row.0
    there = subst (λ (n : ℤ). n <ℤ row.0) (sym each.0.rowid) (climbs_to k.0 before row after rises)

    here : entry.rowid <ℤ m.rowid
    here = subst (λ (n : ℤ). entry.rowid <ℤ n) (sym at) there
