-- The rowids of the first entries of a batch that pass a test.
use Rattle.std.proofs.Common.{◌≡◌, refl, sym, ap, subst, ◌∙◌, ◌+◌, ◌≤◌, ◌<◌, ℕ, zero, suc, ℤ, Bool, true, false, ◌&&◌, cond, List, [], ◌∷◌, ◌++◌, length, map, drop, slice_index_or, Option, Some, None, Ok, Err, append_assoc, arith}
use mathlib.Core.Bool.{true≢false}
use Rattle.std.proofs.lemmas.List.{append-nil, drop_all, length-append}
use Rattle.std.specs.List.{AllByRecursion, list_all}
use Rattle.std.specs.Prelude.{Result, IsErrAnd}
use Rattle.sqlval.specs.Faults.{IsOrMemory}
use Rattle.sqlval.specs.declared.fault.Fault.{Fault}
use Rattle.sqlval.specs.declared.fault.Fault.TheVariants.{Memory}
use Rattle.record.specs.Record.{IsRecord}
use Rattle.tree_page.specs.Cells.{Pairwise}
use Rattle.tree_index.specs.Entries.{Entry}
use Rattle.row_search.specs.Finding.{AddsFirst, EndsWithRowid, first_rowids, entry_rowid, passing_rowid}

-- ---- what was added of some entries, and what is added of more

module _ (test : Entry → Bool) where
  -- where all pass the test, those after them come too
  pub first_on : (entries more : List Entry) → list_all test entries ≡ true → first_rowids test (entries ++ more) ≡ first_rowids test entries ++ first_rowids test more
  first_on [] more all = refl
  first_on (entry ∷ entries) more all = by (λ (h : list_all test entries ≡ true). first_on entries more h) (test entry) refl all
    where
      by : (list_all test entries ≡ true → first_rowids test (entries ++ more) ≡ first_rowids test entries ++ first_rowids test more)
          → (b : Bool) → test entry ≡ b → (b && list_all test entries) ≡ true
          → first_rowids test ((entry ∷ entries) ++ more) ≡ first_rowids test (entry ∷ entries) ++ first_rowids test more
      by rest true e all =
          ap (λ t. cond t (entry_rowid entry ∷ first_rowids test (entries ++ more)) []) e
          ∙ (ap (λ ids. entry_rowid entry ∷ ids) (rest all)
          ∙ sym (ap (λ t. cond t (entry_rowid entry ∷ first_rowids test entries) [] ++ first_rowids test more) e))
      by rest false e all = absurd (true≢false (sym all))

  -- where one doesn't, none after it comes
  pub first_off : (entries more : List Entry) → list_all test entries ≡ false → first_rowids test (entries ++ more) ≡ first_rowids test entries
  first_off [] more none = absurd (true≢false none)
  first_off (entry ∷ entries) more none = by (λ (h : list_all test entries ≡ false). first_off entries more h) (test entry) refl none
    where
      by : (list_all test entries ≡ false → first_rowids test (entries ++ more) ≡ first_rowids test entries) → (b : Bool) → test entry ≡ b → (b && list_all test entries) ≡ false → first_rowids test ((entry ∷ entries) ++ more) ≡ first_rowids test (entry ∷ entries)
      by rest true e none =
          ap (λ t. cond t (entry_rowid entry ∷ first_rowids test (entries ++ more)) []) e
          ∙ (ap (λ ids. entry_rowid entry ∷ ids) (rest none) ∙ sym (ap (λ t. cond t (entry_rowid entry ∷ first_rowids test entries) []) e))
      by rest false e none =
          ap (λ t. cond t (entry_rowid entry ∷ first_rowids test (entries ++ more)) []) e ∙ sym (ap (λ t. cond t (entry_rowid entry ∷ first_rowids test entries) []) e)

  -- one entry more
  one_comes : (entry : Entry) (entries : List Entry) → test entry ≡ true → first_rowids test (entry ∷ entries) ≡ entry_rowid entry ∷ first_rowids test entries
  one_comes entry entries e = ap (λ t. cond t (entry_rowid entry ∷ first_rowids test entries) []) e

  none_comes : (entry : Entry) (entries : List Entry) → test entry ≡ false → first_rowids test (entry ∷ entries) ≡ []
  none_comes entry entries e = ap (λ t. cond t (entry_rowid entry ∷ first_rowids test entries) []) e

-- ---- the entry of the next record

-- The entry at a place, its record, and the entries after it.
pub record IsNext (bytes : List ℕ) (given : List Entry) (place : ℕ) : Type 0 where
  pub entry : Entry
  pub rest : List Entry
  pub here : drop place given ≡ entry ∷ rest
  pub after : drop (place + 1) given ≡ rest
  pub record_is : IsRecord bytes entry
  pub ends : EndsWithRowid entry

module _ {X : Type 0} (f : X → List ℕ) where
  next_entry : (records : List X) (given : List Entry) (place : ℕ) (d : X) → place < length records → Pairwise IsRecord (map f records) given → AllByRecursion EndsWithRowid given
      → (entry : Entry) × (rest : List Entry) × (drop place given ≡ entry ∷ rest) × (drop (suc place) given ≡ rest) × IsRecord (f (slice_index_or records place d)) entry × EndsWithRowid entry
  next_entry [] given place d lt are ends = absurd (omega (arith, lt))
  next_entry (x ∷ records) [] place d lt are ends = absurd are
  next_entry (x ∷ records) (entry ∷ given) zero d lt are ends = (entry, given, refl, refl, are.0, ends.0)
  next_entry (x ∷ records) (entry ∷ given) (suc place) d lt are ends = next_entry records given place d (omega (arith, lt)) are.1 ends.1

  pub is_next : (records : List X) (given : List Entry) (place : ℕ) (d : X) → place < length records → Pairwise IsRecord (map f records) given → AllByRecursion EndsWithRowid given
      → IsNext (f (slice_index_or records place d)) given place
  is_next records given place d lt are ends =
      let next = next_entry records given place d lt are ends in
      let one : suc place ≡ place + 1 = omega arith in
      record {
        entry = next.0;
        rest = next.1;
        here = next.2;
        after = subst (λ (n : ℕ). drop n given ≡ next.1) one next.3;
        record_is = next.4;
        ends = next.5;
      }

  pub as_many : (records : List X) (given : List Entry) → Pairwise IsRecord (map f records) given → length given ≡ length records
  as_many [] [] are = refl
  as_many [] (entry ∷ given) are = absurd are
  as_many (x ∷ records) [] are = absurd are
  as_many (x ∷ records) (entry ∷ given) are = ap suc (as_many records given are.1)

-- ---- one record after the other

-- What is left of the entries decides what comes, and whether all pass the test.
pub record AreAdded (test : Entry → Bool) (given : List Entry) (before now : List ℤ) (place : ℕ) : Type 0 where
  pub same : now ++ first_rowids test (drop place given) ≡ before ++ first_rowids test given
  pub told : list_all test (drop place given) ≡ list_all test given

-- It is so of the entries of these records, each of which so far has given a rowid.
pub record IsAdding (test : Entry → Bool) (records : List (List ℕ)) (before now : List ℤ) (place : ℕ) : Type 0 where
  pub left : (given : List Entry) → Pairwise IsRecord records given → AllByRecursion EndsWithRowid given → AreAdded test given before now place
  pub many : length now ≡ length before + place

pub at_first : (test : Entry → Bool) (records : List (List ℕ)) (before : List ℤ) → IsAdding test records before before 0
at_first test records before = record { left = λ given are ends. record { same = refl; told = refl }; many = omega arith }

some_is : (a b : ℤ) → Some a ≡ Some b → a ≡ b
some_is a b e = cc

module _ {X : Type 0} (f : X → List ℕ) (test : Entry → Bool) (records : List X) (before now : List ℤ) (place : ℕ) (d : X) (has : IsAdding test (map f records) before now place)
    (lt : place < length records) (bytes : List ℕ) (bytes_are : bytes ≡ f (slice_index_or records place d)) where
  -- the entry of the record there
  pub there : (given : List Entry) → Pairwise IsRecord (map f records) given → AllByRecursion EndsWithRowid given → IsNext bytes given place
  there given are ends = subst (λ (b : List ℕ). IsNext b given place) (sym bytes_are) (is_next f records given place d lt are ends)

  module _ (found : Option ℤ) (only : (entry : Entry) → IsRecord bytes entry → EndsWithRowid entry → found ≡ passing_rowid test entry) where
    chosen : (entry : Entry) (b : Bool) → test entry ≡ b → passing_rowid test entry ≡ cond b (Some (entry_rowid entry)) None
    chosen entry b e = ap (λ t. cond t (Some (entry_rowid entry)) None) e

    -- which doesn't pass the test
    pub stops : found ≡ None → (given : List Entry) → Pairwise IsRecord (map f records) given → AllByRecursion EndsWithRowid given → AddsFirst test given before now false
    stops none given are ends =
        let next = there given are ends in
        let has_now = has.left given are ends in
        let not = by next.entry (test next.entry) refl (sym (only next.entry next.record_is next.ends) ∙ none) in
        record {
          added = sym (append-nil now) ∙ (ap (λ (ids : List ℤ). now ++ ids) (sym (ap (first_rowids test) next.here ∙ none_comes test next.entry next.rest not)) ∙ has_now.same);
          told = sym (ap (λ (b : Bool). b && list_all test next.rest) not) ∙ (sym (ap (list_all test) next.here) ∙ has_now.told);
        }
      where
        by : (entry : Entry) (b : Bool) → test entry ≡ b → passing_rowid test entry ≡ None → test entry ≡ false
        by entry true e is_none = absurd (let n : Some (entry_rowid entry) ≡ None = sym (chosen entry true e) ∙ is_none in cc)
        by entry false e is_none = e

    -- which passes it
    pub goes_on : (rowid : ℤ) → found ≡ Some rowid → (then : List ℤ) → then ≡ now ++ rowid ∷ [] → IsAdding test (map f records) before then (place + 1)
    goes_on rowid some then then_is = record {
      left = λ given are ends. (
          let next = there given are ends in
          let has_now = has.left given are ends in
          let is = by next.entry (test next.entry) refl (sym (only next.entry next.record_is next.ends) ∙ some) in
          let after = first_rowids test next.rest in
          record {
            same =
                ap (λ (ids : List ℤ). ids ++ first_rowids test (drop (place + 1) given)) then_is
                ∙ (ap (λ (es : List Entry). (now ++ rowid ∷ []) ++ first_rowids test es) next.after
                ∙ (append_assoc now (rowid ∷ []) after
                ∙ (ap (λ (n : ℤ). now ++ n ∷ after) (sym is.1)
                ∙ (ap (λ (ids : List ℤ). now ++ ids) (sym (ap (first_rowids test) next.here ∙ one_comes test next.entry next.rest is.0)) ∙ has_now.same))));
            told =
                ap (list_all test) next.after
                ∙ (sym (ap (list_all test) next.here ∙ ap (λ (b : Bool). b && list_all test next.rest) is.0) ∙ has_now.told);
          });
      many = (let long = ap length then_is ∙ length-append now (rowid ∷ []) in let so_far = has.many in omega (arith, long, so_far));
    }
      where
        by : (entry : Entry) (b : Bool) → test entry ≡ b → passing_rowid test entry ≡ Some rowid → (test entry ≡ true) × (entry_rowid entry ≡ rowid)
        by entry true e is_some = (e, some_is (entry_rowid entry) rowid (sym (chosen entry true e) ∙ is_some))
        by entry false e is_some = absurd (let n : None ≡ Some rowid = sym (chosen entry false e) ∙ is_some in cc)

  -- it isn't read
  pub not_told : (Q : Bool → Type 0) (fault : Fault) (result : Result Bool Fault) → ((entry : Entry) → IsRecord bytes entry → EndsWithRowid entry → fault ≡ Memory) → IsErrAnd result (λ e. e ≡ fault)
      → (given : List Entry) → Pairwise IsRecord (map f records) given → AllByRecursion EndsWithRowid given → IsOrMemory Q result
  not_told Q fault (Ok all) short is given are ends = absurd is
  not_told Q fault (Err e) short is given are ends = (let next = there given are ends in is ∙ short next.entry next.record_is next.ends)

-- all records were read
pub all_told : {X : Type 0} (f : X → List ℕ) (test : Entry → Bool) (records : List X) (before now : List ℤ) (place : ℕ) → IsAdding test (map f records) before now place
    → length records ≤ place → (given : List Entry) → Pairwise IsRecord (map f records) given → AllByRecursion EndsWithRowid given → AddsFirst test given before now true
all_told f test records before now place has le given are ends =
    let has_now = has.left given are ends in
    let long = as_many f records given are in
    let none : drop place given ≡ [] = drop_all place given (omega (arith, long, le)) in
    record {
      added = sym (append-nil now) ∙ (ap (λ (es : List Entry). now ++ first_rowids test es) (sym none) ∙ has_now.same);
      told = ap (list_all test) (sym none) ∙ has_now.told;
    }
