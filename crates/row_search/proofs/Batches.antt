-- The rowids of the entries of an index's tree that are looked for, batch by batch.
use Rattle.std.proofs.Common.{◌≡◌, inl, refl, sym, ap, subst, ◌∙◌, ℕ, ℤ, Bool, true, false, List, [], ◌∷◌, ◌++◌, IsTrue, Ok, Err, append_assoc, arith}
use Rattle.std.proofs.lemmas.List.{append-nil}
use Rattle.std.specs.List.{AllByRecursion}
use Rattle.std.specs.Prelude.{Option, Result, ⊤, IsErrAnd, not}
use Rattle.sqlval.specs.declared.collation.Collation.{Collation}
use Rattle.sqlval.specs.declared.fault.Fault.{Fault}
use Rattle.sqlval.specs.declared.fault.Fault.TheVariants.{Memory}
use Rattle.sqlval.specs.declared.value.Value.{Value}
use Rattle.sqlval.specs.Faults.{IsOutside}
use Rattle.record.specs.Record.{IsRecord}
use Rattle.pages.specs.Calls.{Limits, Stays}
use Rattle.pages.specs.Map.{PageMap, AreWhole}
use Rattle.tree_page.specs.Cells.{Pairwise}
use Rattle.tree_overflow.proofs.ReadChains.{unrefused}
use Rattle.tree_index.specs.Entries.{Entry, entry_cmp, is_passed}
use Rattle.tree_index.specs.Scanning.{GivesBatch, coming}
use Rattle.tree_index.specs.Tree.{IsIndexTree}
use Rattle.row_search.specs.Finding.{AddsFirst, AddsRowids, EndsWithRowid, first_rowids, is_sought, sought_from}
use Rattle.query_plan.specs.declared.ranges.Range.{Range}
use Rattle.row_search.proofs.LookedUp.{all_chosen}
use Rattle.row_search.proofs.Records.{first_off, first_on}

all_front : {X : Type 0} (P : X → Type 0) (xs ys : List X) → AllByRecursion P (xs ++ ys) → AllByRecursion P xs
all_front P [] ys all = tt
all_front P (x ∷ xs) ys all = (all.0, all_front P xs ys all.1)

-- what comes are some of the entries
all_coming : (ended after : Bool) (columns : List Collation) (key : List Value) (entries : List Entry) → AllByRecursion EndsWithRowid entries → AllByRecursion EndsWithRowid (coming ended after columns key entries)
all_coming true after columns key entries all = tt
all_coming false after columns key entries all = all_chosen EndsWithRowid (λ entry. not (is_passed after (entry_cmp columns key entry))) entries all

nothing_in : (given : List Entry) → Pairwise IsRecord [] given → given ≡ []
nothing_in [] are = refl
nothing_in (entry ∷ given) are = absurd are

module _ {P K : Type 0} (below : P → K) (tells : K → Bool) (limits : K → Limits) (pages : P → PageMap) (count : P → ℕ) (failures : P → ℕ × ℕ) where
  -- What is so after some batches: the rowids so far, and those that come, are those of all entries from where they begin.
  pub record HasAdded (old now : P) (root at_root : ℕ) (columns : List Collation) (key : List Value) (range : Option Range) (ended after : Bool) (at_key : List Value) (before rowids : List ℤ) : Type 0 where
    pub stays : Stays below pages count failures unrefused old now
    pub same_root : at_root ≡ root
    pub left : IsTrue (tells (below old)) → (there : List Entry) (used : List ℕ) → AreWhole (limits (below old)).page (pages old) → IsIndexTree (pages old) (limits (below old)).page root columns there used
        → AllByRecursion EndsWithRowid there
        → rowids ++ first_rowids (is_sought columns key range) (coming ended after columns at_key there) ≡ before ++ first_rowids (is_sought columns key range) (sought_from columns key range there)

  pub at_start : (old : P) (root at_root : ℕ) (columns : List Collation) (key : List Value) (range : Option Range) (ended after : Bool) (at_key : List Value) (before : List ℤ) → at_root ≡ root
      → ((columns : List Collation) (entries : List Entry) → coming ended after columns at_key entries ≡ sought_from columns key range entries)
      → HasAdded old old root at_root columns key range ended after at_key before before
  at_start old root at_root columns key range ended after at_key before same from = record {
    stays = record { kept = refl; same = refl; counted = refl; causes = record { db = omega arith; log = omega arith; why = tt } };
    same_root = same;
    left = λ told there used whole tree ends. ap (λ (es : List Entry). before ++ first_rowids (is_sought columns key range) es) (from columns there);
  }

  -- a refusal before the first batch, or of one that isn't read
  pub refused : (old : P) (root : ℕ) (columns : List Collation) (key : List Value) (range : Option Range) (before now : List ℤ) (fault : Fault) (result : Result ⊤ Fault)
      → (IsTrue (tells (below old)) → (there : List Entry) (used : List ℕ) → AreWhole (limits (below old)).page (pages old) → IsIndexTree (pages old) (limits (below old)).page root columns there used
      → AllByRecursion EndsWithRowid there → IsOutside fault)
      → IsErrAnd result (λ e. e ≡ fault) → IsTrue (tells (below old)) → AddsRowids (pages old) (limits (below old)).page root columns key range before now result
  refused old root columns key range before now fault (Ok done) why same told = absurd same
  refused old root columns key range before now fault (Err e) why same told = λ there used whole tree ends. subst IsOutside (sym same) (why told there used whole tree ends)

  module _ (old mid : P) (root at_root : ℕ) (columns : List Collation) (key : List Value) (range : Option Range) (ended ended_then after after_then : Bool) (at_key key_then : List Value) (before rowids : List ℤ) (batch : List (List ℕ))
      (has : HasAdded old mid root at_root columns key range ended after at_key before rowids) where
    -- what a batch gives of the pages as they were
    given_since : (result : Result ⊤ Fault)
        → (IsTrue (tells (below mid)) → GivesBatch (pages mid) (limits (below mid)).page at_root columns (coming ended after columns at_key) (coming ended_then after_then columns key_then) ended_then batch result)
        → IsTrue (tells (below old))
        → GivesBatch (pages old) (limits (below old)).page root columns (coming ended after columns at_key) (coming ended_then after_then columns key_then) ended_then batch result
    given_since result gives told =
        subst (λ (n : ℕ). GivesBatch (pages old) (limits (below old)).page n columns (coming ended after columns at_key) (coming ended_then after_then columns key_then) ended_then batch result) has.same_root
        (subst (λ (m : PageMap). GivesBatch m (limits (below old)).page at_root columns (coming ended after columns at_key) (coming ended_then after_then columns key_then) ended_then batch result) has.stays.same
        (subst (λ (k : K). GivesBatch (pages mid) (limits k).page at_root columns (coming ended after columns at_key) (coming ended_then after_then columns key_then) ended_then batch result) has.stays.kept
        (gives (subst (λ (k : K). IsTrue (tells k)) (sym has.stays.kept) told))))

    -- the batch isn't read
    pub not_read : (now : List ℤ) (fault : Fault) (result : Result ⊤ Fault)
        → (IsTrue (tells (below mid)) → GivesBatch (pages mid) (limits (below mid)).page at_root columns (coming ended after columns at_key) (coming ended_then after_then columns key_then) ended_then batch (Err fault))
        → IsErrAnd result (λ e. e ≡ fault) → IsTrue (tells (below old)) → AddsRowids (pages old) (limits (below old)).page root columns key range before now result
    not_read now fault result gives = refused old root columns key range before now fault result (λ told there used whole tree ends. given_since (Err fault) gives told there used whole tree)

    module _ (gives : IsTrue (tells (below mid)) → GivesBatch (pages mid) (limits (below mid)).page at_root columns (coming ended after columns at_key) (coming ended_then after_then columns key_then) ended_then batch (Ok tt)) where
      -- the entries of the batch end with rowids
      given_end : (there given later : List Entry) → coming ended after columns at_key there ≡ given ++ later → AllByRecursion EndsWithRowid there → AllByRecursion EndsWithRowid given
      given_end there given later split ends = all_front EndsWithRowid given later (subst (AllByRecursion EndsWithRowid) split (all_coming ended after columns at_key there ends))

      -- its rowids aren't found
      pub not_found : (now : List ℤ) (fault : Fault) (result : Result ⊤ Fault) → ((given : List Entry) → Pairwise IsRecord batch given → AllByRecursion EndsWithRowid given → fault ≡ Memory)
          → IsErrAnd result (λ e. e ≡ fault) → IsTrue (tells (below old)) → AddsRowids (pages old) (limits (below old)).page root columns key range before now result
      not_found now fault result short = refused old root columns key range before now fault result (λ told there used whole tree ends. (
          let batch_is = given_since (Ok tt) gives told there used whole tree in
          inl (short batch_is.0 batch_is.1 (given_end there batch_is.0 (coming ended_then after_then columns key_then there) batch_is.2 ends))))

      -- the batch is empty, and so nothing comes
      pub none_left : batch ≡ [] → IsTrue (tells (below old)) → AddsRowids (pages old) (limits (below old)).page root columns key range before rowids (Ok tt)
      none_left none told = λ there used whole tree ends.
          (let batch_is = given_since (Ok tt) gives told there used whole tree in
          let empty : batch_is.0 ≡ [] = nothing_in batch_is.0 (subst (λ (l : List (List ℕ)). Pairwise IsRecord l batch_is.0) none batch_is.1) in
          let nothing : coming ended after columns at_key there ≡ [] =
          batch_is.2 ∙ (ap (λ (l : List Entry). l ++ coming ended_then after_then columns key_then there) empty ∙ ap (λ (b : Bool). coming b after_then columns key_then there) (batch_is.3 empty)) in
          sym (append-nil rowids) ∙ (ap (λ (l : List Entry). rowids ++ first_rowids (is_sought columns key range) l) (sym nothing) ∙ has.left told there used whole tree ends))

      module _ (now : List ℤ) (all : Bool) (adds : (given : List Entry) → Pairwise IsRecord batch given → AllByRecursion EndsWithRowid given → AddsFirst (is_sought columns key range) given rowids now all) where
        -- not all its entries are looked for
        pub stops_there : all ≡ false → IsTrue (tells (below old)) → AddsRowids (pages old) (limits (below old)).page root columns key range before now (Ok tt)
        stops_there stop told = λ there used whole tree ends.
            (let batch_is = given_since (Ok tt) gives told there used whole tree in
            let given = batch_is.0 in
            let later = coming ended_then after_then columns key_then there in
            let added = adds given batch_is.1 (given_end there given later batch_is.2 ends) in
            added.added ∙ (ap (λ (ids : List ℤ). rowids ++ ids) (sym (first_off (is_sought columns key range) given later (sym added.told ∙ stop)))
            ∙ (ap (λ (l : List Entry). rowids ++ first_rowids (is_sought columns key range) l) (sym batch_is.2) ∙ has.left told there used whole tree ends)))

        -- all its entries are
        pub goes_on : all ≡ true → (new : P) (new_root : ℕ) → new_root ≡ at_root → Stays below pages count failures unrefused old new
            → HasAdded old new root new_root columns key range ended_then after_then key_then before now
        goes_on all_so new new_root root_is stays = record {
          stays = stays;
          same_root = root_is ∙ has.same_root;
          left = λ told there used whole tree ends. (
              let batch_is = given_since (Ok tt) gives told there used whole tree in
              let given = batch_is.0 in
              let later = coming ended_then after_then columns key_then there in
              let added = adds given batch_is.1 (given_end there given later batch_is.2 ends) in
              ap (λ (ids : List ℤ). ids ++ first_rowids (is_sought columns key range) later) added.added
              ∙ (append_assoc rowids (first_rowids (is_sought columns key range) given) (first_rowids (is_sought columns key range) later)
              ∙ (ap (λ (ids : List ℤ). rowids ++ ids) (sym (first_on (is_sought columns key range) given later (sym added.told ∙ all_so)))
              ∙ (ap (λ (l : List Entry). rowids ++ first_rowids (is_sought columns key range) l) (sym batch_is.2) ∙ has.left told there used whole tree ends))));
        }
