-- The rowid that an entry ends with, read where the entry passes a test.
use Rattle.std.proofs.Common.{◌≡◌, refl, sym, ap, subst, ◌∙◌, ◌-◌, ℕ, ℤ, Bool, true, false, cond, List, [], ◌∷◌, ◌++◌, length, slice_index_or, Some, None, Ok, Err, arith}
use Rattle.std.proofs.lemmas.List.{length-append}
use Rattle.std.specs.Prelude.{Result, IsErrAnd}
use Rattle.sqlval.specs.Faults.{IsOrMemory}
use Rattle.sqlval.specs.Gives.{Refuses}
use Rattle.sqlval.specs.declared.fault.Fault.{Fault}
use Rattle.sqlval.specs.declared.fault.Fault.TheVariants.{Memory}
use Rattle.sqlval.specs.declared.value.Value.{Value}
use Rattle.sqlval.specs.declared.value.Value.TheVariants.{Null, Int}
use Rattle.tree_index.specs.Entries.{Entry}
use Rattle.row_search.specs.Finding.{EndsWithRowid, entry_rowid, passing_rowid}

-- ---- the last value

pub ends_with : (values : List Value) (rowid : ℤ) → entry_rowid (values ++ Int rowid ∷ []) ≡ rowid
ends_with [] rowid = refl
ends_with (value ∷ []) rowid = refl
ends_with (value ∷ next ∷ values) rowid = ends_with (next ∷ values) rowid

last_at : (values : List Value) (value d : Value) → slice_index_or (values ++ value ∷ []) (length values) d ≡ value
last_at [] value d = refl
last_at (first ∷ values) value d = last_at values value d

int_is : (m n : ℤ) → Int m ≡ Int n → m ≡ n
int_is m n e = cc

-- it is the rowid
pub rowid_read : (entry : Entry) → EndsWithRowid entry → (place : ℕ) (rowid : ℤ) → place ≡ length entry - 1 → Int rowid ≡ slice_index_or entry place Null → rowid ≡ entry_rowid entry
rowid_read entry ends place rowid place_is read =
    let long = ap length ends.is ∙ length-append ends.values (Int ends.rowid ∷ []) in
    let last : place ≡ length ends.values = omega (arith, place_is, long) in
    int_is rowid ends.rowid (read ∙ (ap (λ (n : ℕ). slice_index_or entry n Null) last ∙ (ap (λ (l : List Value). slice_index_or l (length ends.values) Null) ends.is ∙ last_at ends.values (Int ends.rowid) Null)))
    ∙ sym (ap entry_rowid ends.is ∙ ends_with ends.values ends.rowid)

-- ---- the record of an entry

abbrev entry_in : Entry → Result Entry Fault → Entry
entry_in d (Ok entry) = entry
entry_in d (Err fault) = d

abbrev pub read_as : Entry → Result Entry Fault
read_as entry = Ok entry

same_entry : (entry row : Entry) → read_as entry ≡ read_as row → row ≡ entry
same_entry entry row read = sym (ap (entry_in row) read)

not_ok : (fault : Fault) (entry : Entry) → read_as entry ≡ Err fault → ⊥
not_ok fault entry e = cc

only_memory : (fault : Fault) (entry : Entry) → Refuses fault (read_as entry) → fault ≡ Memory
only_memory Memory entry refuses = refl
only_memory fault entry refuses = absurd (not_ok fault entry refuses)

-- it is refused only if out of memory
pub memory_alone : {X : Type 0} (P : X → Type 0) (fault : Fault) (entry : Entry) (result : Result X Fault) → Refuses fault (read_as entry) → IsErrAnd result (λ e. e ≡ fault) → IsOrMemory P result
memory_alone P fault entry (Ok found) refuses is = absurd is
memory_alone P fault entry (Err e) refuses is = is ∙ only_memory fault entry refuses

-- ---- whether it passes a test

module _ (test : Entry → Bool) (entry row : Entry) (read : read_as entry ≡ read_as row) (is : Bool) (told : is ≡ test row) where
  found_by : (b : Bool) → is ≡ b → passing_rowid test entry ≡ cond b (Some (entry_rowid entry)) None
  found_by b e = ap (λ t. cond t (Some (entry_rowid entry)) None) (sym (ap test (same_entry entry row read)) ∙ (sym told ∙ e))

  pub not_sought : is ≡ false → None ≡ passing_rowid test entry
  not_sought e = sym (found_by false e)

  pub is_there : is ≡ true → (rowid : ℤ) → (EndsWithRowid row → Some rowid ≡ Some (entry_rowid row)) → EndsWithRowid entry → Some rowid ≡ passing_rowid test entry
  is_there e rowid found ends = subst (λ (x : Entry). EndsWithRowid x → Some rowid ≡ Some (entry_rowid x)) (same_entry entry row read) found ends ∙ sym (found_by true e)

  -- it has a rowid
  pub never_none : (A : Type 0) → (EndsWithRowid row → None ≡ Some (entry_rowid row)) → EndsWithRowid entry → A
  never_none A found ends = absurd (let n = subst (λ (x : Entry). EndsWithRowid x → None ≡ Some (entry_rowid x)) (same_entry entry row read) found ends in cc)
