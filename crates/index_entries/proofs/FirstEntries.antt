-- The first entries from a key on, and what their records tell.
use Rattle.std.proofs.Common.{◌≡◌, ◌≤◌, ◌+◌, inl, refl, sym, ap, subst, ◌∙◌, ℕ, Bool, true, false, List, [], ◌∷◌, ◌++◌, length, map, drop, slice_index_or, Ok, Err, arith}
use Rattle.std.specs.Ordering.{is_eq}
use Rattle.std.specs.Prelude.{Result, IsErrAnd, MatchResult}
use Rattle.sqlval.specs.Faults.{IsOrMemory, IsOutside}
use Rattle.sqlval.specs.Gives.{Refuses}
use Rattle.sqlval.specs.declared.collation.Collation.{Collation}
use Rattle.sqlval.specs.declared.fault.Fault.{Fault}
use Rattle.sqlval.specs.declared.fault.Fault.TheVariants.{Memory}
use Rattle.sqlval.specs.declared.value.Value.{Value}
use Rattle.record.specs.Record.{IsRecord}
use Rattle.pages.specs.Map.{PageMap, AreWhole}
use Rattle.tree_page.specs.Cells.{Pairwise}
use Rattle.tree_index.specs.Entries.{AreEntries, Entry, entries_from, entry_cmp, key_in}
use Rattle.tree_index.specs.Scanning.{GivesBatch, coming}
use Rattle.tree_index.specs.Tree.{IsIndexTree}
use Rattle.index_entries.specs.Others.{FindsNext, begins_with}
use Rattle.index_entries.proofs.OtherKeys.{next_after}

-- a refusal is passed on
pub passed_on : {X : Type 0} (P : X → Type 0) (result : Result X Fault) (fault : Fault) → IsErrAnd result (λ e. e ≡ fault) → IsOutside fault → MatchResult result P IsOutside
passed_on P (Ok x) fault is outside = absurd is
passed_on P (Err e) fault is outside = subst IsOutside (sym is) outside

-- ---- a record that is read

abbrev read_as : Entry → Result Entry Fault
read_as entry = Ok entry

abbrev row_in : Entry → Result Entry Fault → Entry
row_in d (Ok row) = row
row_in d (Err fault) = d

not_ok : (fault : Fault) (entry : Entry) → read_as entry ≡ Err fault → ⊥
not_ok fault entry e = cc

pub only_memory : (fault : Fault) (entry : Entry) → Refuses fault (read_as entry) → fault ≡ Memory
only_memory Memory entry refuses = refl
only_memory fault entry refuses = absurd (not_ok fault entry refuses)

pub not_read : (P : Bool → Type 0) (result : Result Bool Fault) (fault : Fault) → IsErrAnd result (λ e. e ≡ fault) → fault ≡ Memory → IsOrMemory P result
not_read P (Ok same) fault is memory = absurd is
not_read P (Err e) fault is memory = is ∙ memory

pub same_row : (row entry : Entry) → read_as entry ≡ Ok row → entry ≡ row
same_row row entry reads = ap (row_in entry) reads

-- the records of some bytes
pub first_there : {X : Type 0} (f : X → List ℕ) (xs : List X) (x : X) → 1 ≤ length xs → x ≡ slice_index_or xs 0 x → map f xs ≡ f x ∷ map f (drop 1 xs)
first_there f [] x some is = absurd (omega (arith, some))
first_there f (y ∷ ys) x some is = ap (λ z. f z ∷ map f ys) (sym is)

pub second_there : {X : Type 0} (f : X → List ℕ) (xs : List X) (x y : X) → 2 ≤ length xs → x ≡ slice_index_or xs 0 x → y ≡ slice_index_or xs 1 y → map f xs ≡ f x ∷ f y ∷ map f (drop 2 xs)
second_there f [] x y some is also = absurd (omega (arith, some))
second_there f (z ∷ []) x y some is also = absurd (omega (arith, some))
second_there f (z ∷ w ∷ xs) x y some is also = ap (λ v. f v ∷ f w ∷ map f xs) (sym is) ∙ ap (λ v. f x ∷ f v ∷ map f xs) (sym also)

-- ---- the records of the first entries

-- what a record tells of its entry, beside a key
abbrev pub Tells : List ℕ → List Collation → List Value → Result Bool Fault → Type 0
Tells bytes cs key result = (entry : Entry) → IsRecord bytes entry → IsOrMemory (λ same. same ≡ is_eq (entry_cmp cs key entry)) result

pub as_told : (bytes : List ℕ) (under cs : List Collation) (values key : List Value) (result : Result Bool Fault) → under ≡ cs → values ≡ key → Tells bytes under values result → Tells bytes cs key result
as_told bytes under cs values key result under_is values_are tells =
    subst (λ (c : List Collation). Tells bytes c key result) under_is (subst (λ (k : List Value). Tells bytes under k result) values_are tells)

told : (P Q : Bool → Type 0) (result : Result Bool Fault) → ((same : Bool) → P same → Q same) → IsOrMemory P result → MatchResult result Q IsOutside
told P Q (Ok same) so is = so same is
told P Q (Err fault) so memory = inl memory

module _ (pages : PageMap) (size root : ℕ) (cs : List Collation) (from : List Value) (after : Bool) where
  -- these are the records of some of the first entries, and of none only where none comes
  abbrev pub Firsts : List (List ℕ) → Type 0
  Firsts batch = (entries : List Entry) (used : List ℕ) → AreWhole size pages → IsIndexTree pages size root cs entries used
      → (given : List Entry) × (later : List Entry) × Pairwise IsRecord batch given × (entries_from after cs from entries ≡ given ++ later) × (given ≡ [] → later ≡ [])

  -- a cursor gives them
  pub firsts_given : (old_ended old_after new_ended new_after : Bool) (old_key new_key : List Value) (batch : List (List ℕ)) (number : ℕ) → number ≡ root
      → ((columns : List Collation) (entries : List Entry) → coming old_ended old_after columns old_key entries ≡ entries_from after columns from entries)
      → GivesBatch pages size number cs (coming old_ended old_after cs old_key) (coming new_ended new_after cs new_key) new_ended batch (Ok tt) → Firsts batch
  firsts_given old_ended old_after new_ended new_after old_key new_key batch number root_is begins gives = λ entries used whole tree.
      (let it = gives entries used whole (subst (λ (n : ℕ). IsIndexTree pages size n cs entries used) (sym root_is) tree) in
      (it.0, coming new_ended new_after cs new_key entries, it.1, sym (begins cs entries) ∙ it.2, λ none. ap (λ (ended : Bool). coming ended new_after cs new_key entries) (it.3 none)))

  -- there is none
  pub none_first : (batch : List (List ℕ)) → batch ≡ [] → Firsts batch → (key : List Value) → FindsNext pages size root cs from after key (Ok false)
  none_first batch none firsts key = λ entries used whole tree.
      (let it = firsts entries used whole tree in
      by entries it.0 it.1 (subst (λ (records : List (List ℕ)). Pairwise IsRecord records it.0) none it.2) it.3 it.4)
    where
      by : (entries given later : List Entry) → Pairwise IsRecord [] given → entries_from after cs from entries ≡ given ++ later → (given ≡ [] → later ≡ []) → false ≡ begins_with cs key (entries_from after cs from entries)
      by entries [] later records split ends = sym (ap (begins_with cs key) (split ∙ ends refl))
      by entries (entry ∷ given) later records split ends = absurd records

  -- the first record tells
  pub first_tells : (batch : List (List ℕ)) (bytes : List ℕ) (rest : List (List ℕ)) → batch ≡ bytes ∷ rest → Firsts batch → (key : List Value) (result : Result Bool Fault) → Tells bytes cs key result
      → FindsNext pages size root cs from after key result
  first_tells batch bytes rest some firsts key result tells = λ entries used whole tree.
      (let it = firsts entries used whole tree in
      by entries it.0 it.1 (subst (λ (records : List (List ℕ)). Pairwise IsRecord records it.0) some it.2) it.3)
    where
      by : (entries given later : List Entry) → Pairwise IsRecord (bytes ∷ rest) given → entries_from after cs from entries ≡ given ++ later
          → MatchResult result (λ same. same ≡ begins_with cs key (entries_from after cs from entries)) IsOutside
      by entries [] later is split = absurd is
      by entries (entry ∷ given) later is split = told (λ same. same ≡ is_eq (entry_cmp cs key entry)) _ result (λ same e. e ∙ sym (ap (begins_with cs key) split)) (tells entry is.0)

pub as_firsts : (pages : PageMap) (size root : ℕ) (under cs : List Collation) (from start : List Value) (after : Bool) (batch : List (List ℕ)) → under ≡ cs → from ≡ start
    → Firsts pages size root under from after batch → Firsts pages size root cs start after batch
as_firsts pages size root under cs from start after batch under_is from_is firsts =
    subst (λ (c : List Collation). Firsts pages size root c start after batch) under_is (subst (λ (k : List Value). Firsts pages size root under k after batch) from_is firsts)

module _ (pages : PageMap) (size root : ℕ) (cs : List Collation) (x : Entry) where
  abbrev key : List Value
  key = key_in cs x

  -- the second record tells of the entries after the first
  pub second_tells : (batch : List (List ℕ)) (one two : List ℕ) (rest : List (List ℕ)) → batch ≡ one ∷ two ∷ rest → length x ≡ length cs + 1 → Firsts pages size root cs key false batch → Tells one cs x (Ok true)
      → (result : Result Bool Fault) → Tells two cs key result → FindsNext pages size root cs x true key result
  second_tells batch one two rest some long firsts own result tells = λ entries used whole tree.
      (let it = firsts entries used whole tree in
      by entries tree.sorted it.0 it.1 (subst (λ (records : List (List ℕ)). Pairwise IsRecord records it.0) some it.2) it.3)
    where
      by : (entries : List Entry) → AreEntries cs entries → (given later : List Entry) → Pairwise IsRecord (one ∷ two ∷ rest) given → entries_from false cs key entries ≡ given ++ later
          → MatchResult result (λ same. same ≡ begins_with cs key (entries_from true cs x entries)) IsOutside
      by entries are [] later is split = absurd is
      by entries are (first ∷ []) later is split = absurd is.1
      by entries are (first ∷ second ∷ given) later is split =
          told (λ same. same ≡ is_eq (entry_cmp cs key second)) _ result
          (λ same e. e ∙ sym (ap (begins_with cs key) (next_after cs x entries are long first (second ∷ given ++ later) split (sym (own first is.0))))) (tells second is.1.0)
