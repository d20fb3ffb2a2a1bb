-- A record goes into a tree, in the place of another or beside the others.
use Rattle.std.proofs.Common.{◌≡◌, ◌⊎◌, inl, inr, refl, sym, ap, subst, ◌∙◌, ℕ, ℤ, Bool, true, false, List, [], ◌∷◌, Some, None, Ok, Err, IsTrue}
use Rattle.std.specs.Global.{Vec}
use Rattle.std.specs.Prelude.{Result, MatchResult, IsErrAnd, ⊤}
use Rattle.sqlval.specs.declared.fault.Fault.{Fault}
use Rattle.sqlval.specs.declared.fault.Fault.TheVariants.{Unique}
use Rattle.tree_leaf.specs.Leaf.{Entry}
use Rattle.pages.specs.Calls.{IsOutsideOrFull, Limits}
use Rattle.pages.specs.Map.{PageMap}
use Rattle.pages.proofs.Moving.{in_sequence}
use Rattle.freelist.specs.Calls.{KeepsHeader}
use Rattle.tree_table.specs.Calls.{BecomesRows, ChangesRows, InsertsRow, RemovesRow}
use Rattle.tree_table.specs.Rows.{payload_at, with_changes, with_replaced, with_row, without_row}
use Rattle.tree_table.specs.declared.changing.RowChange.{RowChange}
use Rattle.row_change.specs.NewRows.{entry_in}
use Rattle.row_change.specs.declared.inserting.RowRecord.{RowRecord}
use Rattle.row_change.specs.Putting.{MovesRow, PutsAmong}
use Rattle.row_change.specs.Updating.{ReplacesRows}

-- ---- a row is put in

-- what was put in is the entry of the record
pub as_entry : (old new : PageMap) (size root : ℕ) (made : RowRecord) (payload : List ℕ) (rowid : ℤ) (there is : Bool) → rowid ≡ made.rowid → payload ≡ made.payload.items → there ≡ is
    → InsertsRow old new size root (record { rowid = rowid; payload = payload }) (Ok there) → InsertsRow old new size root (entry_in made) (Ok is)
as_entry old new size root made payload rowid there is same_rowid same_payload same inserts =
    subst (λ (b : Bool). InsertsRow old new size root (entry_in made) (Ok b)) same
    (subst (λ (z : ℤ). InsertsRow old new size root (record { rowid = z; payload = made.payload.items }) (Ok there)) same_rowid
    (subst (λ (bytes : List ℕ). InsertsRow old new size root (record { rowid = rowid; payload = bytes }) (Ok there)) same_payload inserts))

module _ (old new : PageMap) (size root : ℕ) (row : Entry) where
  pub put_among : InsertsRow old new size root row (Ok true) → PutsAmong old new size root row (Ok tt)
  put_among inserts rows used free is = (let now = inserts rows used free is in (now.0, now.1))

  pub put_taken : InsertsRow old new size root row (Ok false) → PutsAmong old new size root row (Err Unique)
  put_taken inserts rows used free is = inr (refl, (inserts rows used free is).0)

  pub put_refused : (fault : Fault) (result : Result ⊤ Fault) → IsErrAnd result (λ e. e ≡ fault) → InsertsRow old new size root row (Err fault) → PutsAmong old new size root row result
  put_refused fault (Ok done) same inserts = absurd same
  put_refused fault (Err e) same inserts = λ rows used free is. inl (subst IsOutsideOrFull (sym same) (inserts rows used free is))

-- ---- a row is replaced

pub as_one : (old new : PageMap) (size root : ℕ) (changes : List RowChange) (result : Result ⊤ Fault) (m rowid : ℤ) (payload : Vec ℕ) → changes ≡ record { rowid = m; payload = Some payload } ∷ [] → m ≡ rowid → ChangesRows old new size root changes result
    → ReplacesRows old new size root (with_replaced (record { rowid = rowid; payload = payload.items })) result
as_one old new size root changes result m rowid payload are same makes rows used free is = by result (makes rows used free is)
  where
    one : with_changes changes rows ≡ with_replaced (record { rowid = rowid; payload = payload.items }) rows
    one = ap (λ (cs : List RowChange). with_changes cs rows) are ∙ ap (λ (n : ℤ). with_replaced (record { rowid = n; payload = payload.items }) rows) same

    by : (r : Result ⊤ Fault) → MatchResult r (λ done. BecomesRows old new size root (with_changes changes rows) used free) IsOutsideOrFull
        → MatchResult r (λ done. BecomesRows old new size root (with_replaced (record { rowid = rowid; payload = payload.items }) rows) used free) IsOutsideOrFull
    by (Ok done) becomes = subst (λ (rs : List Entry). BecomesRows old new size root rs used free) one becomes
    by (Err fault) refused = refused

-- ---- a row goes, and another comes

pub keeps_then : (a b c : PageMap) → KeepsHeader a b → KeepsHeader b c → KeepsHeader a c
keeps_then a b c first then header is = (let now = first header is in then (record header { freelist_trunk = now.0; freelist_count = now.1 }) now.2)

pub not_gone : (old new : PageMap) (size root : ℕ) (gone : ℤ) (row : Entry) (fault : Fault) (result : Result ⊤ Fault) → IsErrAnd result (λ e. e ≡ fault) → RemovesRow old new size root gone (Err fault) → MovesRow old new size root gone row result
not_gone old new size root gone row fault (Ok done) same removes = absurd same
not_gone old new size root gone row fault (Err e) same removes = λ rows used free is there. inl (subst IsOutsideOrFull (sym same) (removes rows used free is))

goes_first : (old mid new : PageMap) (size root : ℕ) (gone : ℤ) (row : Entry) (was_there : Bool) (result : Result ⊤ Fault) → RemovesRow old mid size root gone (Ok was_there) → PutsAmong mid new size root row result → MovesRow old new size root gone row result
goes_first old mid new size root gone row false result removes puts rows used free is there = absurd (there (removes rows used free is).0)
goes_first old mid new size root gone row true result removes puts rows used free is there = by result (puts (without_row gone rows) was.now_used was.now_free was.stands)
  where
    was : BecomesRows old mid size root (without_row gone rows) used free
    was = (removes rows used free is).1.0

    by : (r : Result ⊤ Fault)
        → MatchResult r (λ done. (payload_at row.rowid (without_row gone rows) ≡ None) × BecomesRows mid new size root (with_row row (without_row gone rows)) was.now_used was.now_free)
        (λ fault. IsOutsideOrFull fault ⊎ ((fault ≡ Unique) × (payload_at row.rowid (without_row gone rows) ≡ None → ⊥)))
        → MatchResult r (λ done. (payload_at row.rowid (without_row gone rows) ≡ None) × BecomesRows old new size root (with_row row (without_row gone rows)) used free)
        (λ fault. IsOutsideOrFull fault ⊎ ((fault ≡ Unique) × (payload_at row.rowid (without_row gone rows) ≡ None → ⊥)))
    by (Ok done) (none, now) = (
      none,
      record {
        now_used = now.now_used;
        now_free = now.now_free;
        stands = now.stands;
        moves = in_sequence old mid new used free was.now_used was.now_free now.now_used now.now_free was.moves now.moves;
        header = keeps_then old mid new was.header now.header;
      },
    )
    by (Err fault) cannot = cannot

pub then_put : (old mid new : PageMap) (size root : ℕ) (m gone : ℤ) (row : Entry) (was_there : Bool) (result : Result ⊤ Fault) → m ≡ gone → RemovesRow old mid size root m (Ok was_there) → PutsAmong mid new size root row result
    → MovesRow old new size root gone row result
then_put old mid new size root m gone row was_there result same removes puts =
    goes_first old mid new size root gone row was_there result (subst (λ (n : ℤ). RemovesRow old mid size root n (Ok was_there)) same removes) puts

-- what a call does it does with the limits that there were before it
pub puts_since : {P K : Type 0} (below : P → K) (tells : K → Bool) (limits : K → Limits) (old mid : P) (m new : PageMap) (root : ℕ) (row : Entry) (result : Result ⊤ Fault) → below mid ≡ below old
    → (IsTrue (tells (below mid)) → PutsAmong m new (limits (below mid)).page root row result) → IsTrue (tells (below old)) → PutsAmong m new (limits (below old)).page root row result
puts_since {P} {K} below tells limits old mid m new root row result kept puts told =
    subst (λ (k : K). PutsAmong m new (limits k).page root row result) kept (puts (subst (λ (k : K). IsTrue (tells k)) (sym kept) told))
