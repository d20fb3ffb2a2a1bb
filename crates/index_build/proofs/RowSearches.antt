-- Whether an entry is that of a row.
use Rattle.std.proofs.Common.{◌≡◌, ◌<◌, ◌≤◌, ◌+◌, inl, inr, refl, sym, ap, subst, ◌∙◌, ℕ, zero, suc, Bool, true, false, List, [], ◌∷◌, length, take, slice_index_or, arith}
use Rattle.sqlval.specs.declared.value.Value.{Value}
use Rattle.sqlval.specs.declared.value.Value.TheVariants.{Null}
use Rattle.query_terms.specs.Values.{Row}
use Rattle.tree_index.specs.Entries.{Entry}
use Rattle.catalog.specs.declared.tables.IndexColumn.{IndexColumn}
use Rattle.index_build.specs.Calls.{Tells}
use Rattle.index_build.specs.Checking.{IsRowPlace, IsRowsEntry, are_by_rowid}
use Rattle.index_build.specs.Ranking.{indexed_of}
use Rattle.index_build.proofs.Comparing.{all_same, same_next, tells_not}
use Rattle.index_build.proofs.RowEntries.{is_whole}

-- ---- the entry of a row

pub long : (columns : List IndexColumn) (row : Row) → length (indexed_of columns row) ≡ suc (length columns)
long columns row = is_whole row.values row.rowid columns

pub column_at : (columns : List IndexColumn) (row : Row) (place : ℕ) (d : IndexColumn) → place < length columns
    → slice_index_or (indexed_of columns row) place Null ≡ slice_index_or row.values (slice_index_or columns place d).place Null
column_at [] row place d lt = absurd (omega (arith, lt))
column_at (column ∷ columns) row zero d lt = refl
column_at (column ∷ columns) row (suc place) d lt = column_at columns row place d (omega (arith, lt))

pub rowid_at : (columns : List IndexColumn) (row : Row) → slice_index_or (indexed_of columns row) (length columns) Null ≡ row.rowid
rowid_at [] row = refl
rowid_at (column ∷ columns) row = rowid_at columns row

module _ (columns : List IndexColumn) (row : Row) (entry : Entry) (size : length entry ≡ length columns + 1) where
  -- another value in a column
  pub differs_at : (place : ℕ) (d : IndexColumn) (v w : Value) → place < length columns → v ≡ slice_index_or entry place Null → w ≡ slice_index_or row.values (slice_index_or columns place d).place Null
      → (v ≡ w → ⊥) → Tells false (entry ≡ indexed_of columns row)
  differs_at place d v w lt v_is w_is not = tells_not (entry ≡ indexed_of columns row)
      (λ e. not (v_is ∙ (ap (λ (l : Entry). slice_index_or l place Null) e ∙ (column_at columns row place d lt ∙ sym w_is))))

  -- the same value in one more column
  pub same_at : (place : ℕ) (d : IndexColumn) (v w : Value) → place < length columns → v ≡ slice_index_or entry place Null → w ≡ slice_index_or row.values (slice_index_or columns place d).place Null
      → v ≡ w → take place entry ≡ take place (indexed_of columns row) → take (place + 1) entry ≡ take (place + 1) (indexed_of columns row)
  same_at place d v w lt v_is w_is same front =
      let whole = long columns row in
      same_next entry (indexed_of columns row) place Null Null (omega (arith, lt, size)) (omega (arith, lt, whole)) front
      (sym v_is ∙ (same ∙ (w_is ∙ sym (column_at columns row place d lt))))

  -- the rowid decides
  pub by_rowid : (place : ℕ) (v w : Value) (same : Bool) → length columns ≤ place → place ≤ length columns → v ≡ slice_index_or entry (length columns) Null → w ≡ row.rowid → Tells same (v ≡ w)
      → take place entry ≡ take place (indexed_of columns row) → Tells same (entry ≡ indexed_of columns row)
  by_rowid place v w same le also v_is w_is tell front = record {
    yes = λ t. (
        let whole = long columns row in
        let end : place ≡ length columns = omega (arith, le, also) in
        let here = subst (λ (n : ℕ). take n entry ≡ take n (indexed_of columns row)) end front in
        all_same entry (indexed_of columns row) (length columns + 1) (omega (arith, size)) (omega (arith, whole))
        (same_next entry (indexed_of columns row) (length columns) Null Null (omega (arith, size)) (omega (arith, whole)) here
        (sym v_is ∙ (tell.yes t ∙ (w_is ∙ sym (rowid_at columns row))))));
    no = λ e. tell.no (v_is ∙ (ap (λ (l : Entry). slice_index_or l (length columns) Null) e ∙ (rowid_at columns row ∙ sym w_is)));
  }

-- ---- among rows

-- an entry that one of the rows has, and its place
pub record HasEntryAt (columns : List IndexColumn) (rows : List Row) (entry : Entry) : Type 0 where
  pub place : ℕ
  pub low : place < length rows
  pub is : (d : Row) → entry ≡ indexed_of columns (slice_index_or rows place d)

pub placed_in : (columns : List IndexColumn) (rows : List Row) (entry : Entry) → IsRowsEntry columns rows entry → HasEntryAt columns rows entry
placed_in columns [] entry is = absurd is
placed_in columns (row ∷ rows) entry (inl same) = record { place = 0; low = omega arith; is = λ d. same }
placed_in columns (row ∷ rows) entry (inr among) =
    let has = placed_in columns rows entry among in
    let low = has.low in
    record { place = suc has.place; low = omega (arith, low); is = has.is }

pub in_there : (columns : List IndexColumn) (rows : List Row) (entry : Entry) (place : ℕ) (d : Row) → place < length rows → entry ≡ indexed_of columns (slice_index_or rows place d) → IsRowsEntry columns rows entry
in_there columns [] entry place d lt is = absurd (omega (arith, lt))
in_there columns (row ∷ rows) entry zero d lt is = inl is
in_there columns (row ∷ rows) entry (suc place) d lt is = inr (in_there columns rows entry place d (omega (arith, lt)) is)

module _ (columns : List IndexColumn) (rows : List Row) (entry : Entry) where
  -- an entry of another length
  pub not_long : (length entry ≡ length columns + 1 → ⊥) → Tells false (IsRowsEntry columns rows entry)
  not_long not = tells_not (IsRowsEntry columns rows entry) (λ is.
      (let has = placed_in columns rows entry is in
      let row = slice_index_or rows has.place (record { rowid = Null; values = [] }) in
      let same = ap length (has.is (record { rowid = Null; values = [] })) in
      let whole = long columns row in
      not (omega (arith, same, whole))))

  module _ (rowid : Value) (place : ℕ) (rowid_is : rowid ≡ slice_index_or entry (length columns) Null) (is_place : IsRowPlace rows rowid place) (rises : are_by_rowid rows ≡ true) where
    -- the entry's row, if there is one, is the one at the place of its rowid
    there : (has : HasEntryAt columns rows entry) → has.place ≡ place
    there has = is_place has.place rises (
      has.low,
      λ d.
          sym (rowid_is ∙ (ap (λ (l : Entry). slice_index_or l (length columns) Null) (has.is d) ∙ rowid_at columns (slice_index_or rows has.place d))),
    )

    -- there is none
    pub none_there : length rows ≤ place → Tells false (IsRowsEntry columns rows entry)
    none_there le = tells_not (IsRowsEntry columns rows entry) (λ is.
        (let has = placed_in columns rows entry is in
        let low = has.low in
        let same = there has in
        omega (arith, low, same, le)))

    -- that one tells
    pub as_there : (same : Bool) (row d : Row) → place < length rows → row ≡ slice_index_or rows place d → Tells same (entry ≡ indexed_of columns row) → Tells same (IsRowsEntry columns rows entry)
    as_there same row d lt row_is tell = record {
      yes = λ t. in_there columns rows entry place d lt (tell.yes t ∙ ap (indexed_of columns) row_is);
      no = λ is. (
          let has = placed_in columns rows entry is in
          tell.no (has.is d ∙ (ap (λ (n : ℕ). indexed_of columns (slice_index_or rows n d)) (there has) ∙ ap (indexed_of columns) (sym row_is))));
    }
