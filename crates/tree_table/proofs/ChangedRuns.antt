-- The rows of a tree are changed run by run.
use Rattle.std.proofs.Common.{◌≡◌, ◌≤◌, ◌<◌, ℕ, zero, suc, ℤ, Bool, true, false, if◌then◌else◌, IsTrue, List, [], ◌∷◌, length, take, drop, Option, Some, None, refl, sym, ap, subst, ◌∙◌, inl, inr, arith}
use Rattle.std.specs.Global.{Vec}
use Rattle.std.specs.Prelude.{⊤, Result, Ok, Err, MatchResult}
use Rattle.sqlval.specs.declared.fault.Fault.{Fault}
use Rattle.tree_leaf.specs.Leaf.{Entry}
use Rattle.pages.specs.Calls.{Limits, Causes, IsOutsideOrFull}
use Rattle.pages.specs.Map.{PageMap}
use Rattle.tree_store.proofs.PutPages.{fresh_same}
use Rattle.tree_overflow.proofs.Laying.{same_keeps}
use Rattle.tree_table.specs.Calls.{Stands, BecomesRows, IsRemoved}
use Rattle.tree_table.specs.Rows.{payload_at, without_row, with_row, with_change, with_changes}
use Rattle.tree_table.specs.Runs.{IsFirst, IsRunMade, RunsAt}
use Rattle.tree_table.specs.declared.changing.RowChange.{RowChange}
use Rattle.tree_table.proofs.Orders.{same_or_other}
use Rattle.tree_table.proofs.Settled.{becomes_then}

some_none : {A : Type 0} {x : A} → Some x ≡ None → ⊥
some_none e = cc

-- ---- a rowid that no row has

none_gone : (rowid : ℤ) (rows : List Entry) → payload_at rowid rows ≡ None → without_row rowid rows ≡ rows
none_gone rowid [] none = refl
none_gone rowid (row ∷ rows) none = elim (same_or_other row.rowid rowid) [
  | inl same ↦ absurd (some_none (subst (λ (b : Bool). (if b then Some row.payload else payload_at rowid rows) ≡ None) same.0 none))
  | inr other ↦ ap (λ (b : Bool). if b then rows else row ∷ without_row rowid rows) other.0
      ∙ ap (λ (rest : List Entry). row ∷ rest) (none_gone rowid rows (subst (λ (b : Bool). (if b then Some row.payload else payload_at rowid rows) ≡ None) other.0 none))
]

same_by : (rowid : ℤ) (payload : Option (Vec ℕ)) (rows : List Entry) → payload_at rowid rows ≡ None → with_change (record { rowid = rowid; payload = payload }) rows ≡ rows
same_by rowid None rows none = none_gone rowid rows none
same_by rowid (Some payload) rows none =
    ap (λ (o : Option (List ℕ)). elim o [ None ↦ rows | Some old ↦ with_row (record { rowid = rowid; payload = payload.items }) rows ]) none

no_change : (change : RowChange) (rows : List Entry) → payload_at change.rowid rows ≡ None → with_change change rows ≡ rows
no_change change rows none = same_by change.rowid change.payload rows none

-- ---- some changes, and the others

changes_split : (count : ℕ) (changes : List RowChange) (rows : List Entry) → with_changes (drop count changes) (with_changes (take count changes) rows) ≡ with_changes changes rows
changes_split zero changes rows = refl
changes_split (suc count) [] rows = refl
changes_split (suc count) (change ∷ changes) rows = changes_split count changes (with_change change rows)

unchanged : (m : PageMap) (size root : ℕ) (rows : List Entry) (used free : List ℕ) → Stands m size root rows used free → BecomesRows m m size root rows used free
unchanged m size root rows used free is = record {
  now_used = used;
  now_free = free;
  stands = is;
  moves = record {
    longer = omega arith;
    counts = λ n. (let none = fresh_same (length m) (length m) n refl in omega (arith, none));
    keeps = λ n from to none. refl;
    whole = λ size whole. whole;
  };
  header = same_keeps m m refl;
}

-- the tree has the rows after some changes, and these are left
pub record IsChangedUpTo (old now : PageMap) (size root : ℕ) (changes rest : List RowChange) (rows : List Entry) (used free : List ℕ) : Type 0 where
  pub now_rows : List Entry
  pub becomes : BecomesRows old now size root now_rows used free
  pub left : with_changes rest now_rows ≡ with_changes changes rows

pub none_made : (m : PageMap) (size root : ℕ) (changes : List RowChange) (rows : List Entry) (used free : List ℕ) → Stands m size root rows used free → IsChangedUpTo m m size root changes changes rows used free
none_made m size root changes rows used free is = record { now_rows = rows; becomes = unchanged m size root rows used free is; left = refl }

module _ (old mid new : PageMap) (size root : ℕ) (changes rest : List RowChange) (rows : List Entry) (used free : List ℕ) (so : IsChangedUpTo old mid size root changes rest rows used free) (rowid : ℤ) (first : IsFirst rowid rest) where
  one_change : (rest : List RowChange) → IsFirst rowid rest → (rows : List Entry) → payload_at rowid rows ≡ None → with_changes (take 1 rest) rows ≡ rows
  one_change [] first rows none = absurd first
  one_change (change ∷ more) first rows none = no_change change rows (subst (λ (z : ℤ). payload_at z rows ≡ None) (sym first) none)

  run_made : (count : ℕ) (there : Bool) → IsRunMade mid new size root rowid rest so.now_rows so.becomes.now_used so.becomes.now_free count there → IsChangedUpTo old new size root changes (drop count rest) rows used free
  run_made count true made = record {
    now_rows = with_changes (take count rest) so.now_rows;
    becomes = becomes_then old mid new size root so.now_rows (with_changes (take count rest) so.now_rows) used free so.becomes made.1.0;
    left = changes_split count rest so.now_rows ∙ so.left;
  }
  run_made count false made = record {
    now_rows = so.now_rows;
    becomes = subst (λ (m : PageMap). BecomesRows old m size root so.now_rows used free) (sym made.1) so.becomes;
    left = sym (ap (λ (rs : List Entry). with_changes (drop count rest) rs) (ap (λ (n : ℕ). with_changes (take n rest) so.now_rows) made.0.1 ∙ one_change rest first so.now_rows made.0.0))
        ∙ changes_split count rest so.now_rows ∙ so.left;
  }

  pub next_run : (result : Result (ℕ × Bool) Fault) → RunsAt mid new size root rowid rest result → MatchResult result (λ done. IsChangedUpTo old new size root changes (drop done.0 rest) rows used free) IsOutsideOrFull
  next_run (Ok (count, there)) runs = run_made count there (runs so.now_rows so.becomes.now_used so.becomes.now_free so.becomes.stands)
  next_run (Err fault) runs = runs so.now_rows so.becomes.now_used so.becomes.now_free so.becomes.stands

pub all_made : (old now : PageMap) (size root : ℕ) (changes rest : List RowChange) (rows : List Entry) (used free : List ℕ) → rest ≡ [] → IsChangedUpTo old now size root changes rest rows used free
    → BecomesRows old now size root (with_changes changes rows) used free
all_made old now size root changes rest rows used free none so =
    subst (λ (rs : List Entry). BecomesRows old now size root rs used free) (sym (ap (λ (cs : List RowChange). with_changes cs so.now_rows) none) ∙ so.left) so.becomes

-- ---- the loop

-- What is so after some of the changes.
pub record HasChanged {P K : Type 0} (below : P → K) (tells : K → Bool) (limits : K → Limits) (pages : P → PageMap) (failures : P → ℕ × ℕ) (old now : P) (root : ℕ) (changes rest : List RowChange) : Type 0 where
  pub kept : below now ≡ below old
  pub causes : Causes {T = ⊤} (Ok tt) (failures old) (failures now) ⊥
  pub made : IsTrue (tells (below old)) → (rows : List Entry) (used free : List ℕ) → Stands (pages old) (limits (below old)).page root rows used free
      → IsChangedUpTo (pages old) (pages now) (limits (below old)).page root changes rest rows used free

pub next_changed : {P K : Type 0} (below : P → K) (tells : K → Bool) (limits : K → Limits) (pages : P → PageMap) (failures : P → ℕ × ℕ) (old now : P) (new : PageMap) (root : ℕ) (changes rest : List RowChange)
    → HasChanged below tells limits pages failures old now root changes rest → (rowid : ℤ) → IsFirst rowid rest → (result : Result (ℕ × Bool) Fault)
    → (IsTrue (tells (below now)) → RunsAt (pages now) new (limits (below now)).page root rowid rest result) → IsTrue (tells (below old)) → (rows : List Entry) (used free : List ℕ) → Stands (pages old) (limits (below old)).page root rows used free
    → MatchResult result (λ done. IsChangedUpTo (pages old) new (limits (below old)).page root changes (drop done.0 rest) rows used free) IsOutsideOrFull
next_changed {P} {K} below tells limits pages failures old now new root changes rest has rowid first result runs told rows used free is =
    next_run (pages old) (pages now) new (limits (below old)).page root changes rest rows used free (has.made told rows used free is) rowid first result
    (subst (λ (k : K). RunsAt (pages now) new (limits k).page root rowid rest result) has.kept (runs (subst (λ (k : K). IsTrue (tells k)) (sym has.kept) told)))

pub changed_on : {P K : Type 0} (below : P → K) (tells : K → Bool) (limits : K → Limits) (pages : P → PageMap) (failures : P → ℕ × ℕ) (old now : P) (root : ℕ) (changes rest more : List RowChange) → rest ≡ more
    → HasChanged below tells limits pages failures old now root changes rest → HasChanged below tells limits pages failures old now root changes more
changed_on below tells limits pages failures old now root changes rest more same has = subst (λ (cs : List RowChange). HasChanged below tells limits pages failures old now root changes cs) same has

-- ---- one removal

abbrev pub removal : ℤ → RowChange
removal rowid = record { rowid = rowid; payload = None }

pub removed_or : (old new : PageMap) (size root : ℕ) (rowid : ℤ) (rows : List Entry) (used free : List ℕ) (count : ℕ) (there : Bool) → 0 < count → count ≤ 1
    → IsRunMade old new size root rowid (removal rowid ∷ []) rows used free count there → IsRemoved old new size root rowid rows used free there
removed_or old new size root rowid rows used free zero there some few made = absurd (omega (arith, some))
removed_or old new size root rowid rows used free (suc zero) true some few made = made
removed_or old new size root rowid rows used free (suc zero) false some few made = (made.0.0, made.1)
removed_or old new size root rowid rows used free (suc (suc count)) there some few made = absurd (omega (arith, few))
