-- The rows of a tree are read batch by batch.
use Rattle.std.proofs.Common.{◌≡◌, refl, sym, ap, subst, ◌∙◌, inl, inr, ◌⊎◌, ◌+◌, ◌-◌, ◌^◌, ℕ, ℤ, pos, negsuc, Bool, List, [], ◌∷◌, ◌++◌, map, Option, Some, None, Ok, Err, IsTrue, arith}
use Rattle.std.proofs.lemmas.List.{append-nil}
use Rattle.std.specs.Prelude.{Result, ⊤}
use Rattle.sqlval.specs.Gives.{Refuses}
use Rattle.sqlval.specs.Faults.{IsOutside}
use Rattle.sqlval.specs.declared.fault.Fault.{Fault}
use Rattle.tree_leaf.specs.Leaf.{Entry}
use Rattle.pages.specs.Calls.{Limits, Stays}
use Rattle.pages.specs.Map.{PageMap, AreWhole}
use Rattle.tree_table.specs.Rows.{rows_from}
use Rattle.tree_table.specs.Scanning.{BeginsAll, GivesBatch}
use Rattle.tree_table.specs.Tree.{IsTableTree}
use Rattle.row_scan.specs.Answers.{◌and◌, every, left, with_front}
use Rattle.row_scan.proofs.RowLemmas.{ok_is}
use Rattle.row_scan.proofs.Steps.{begins, one_on, refused_so}

-- ---- lists in two parts

module _ {A X : Type 0} (f : X → Result A Fault) where
  abbrev given : List A → Result (List A) Fault
  given xs = Ok xs

  abbrev refused : Fault → Result (List A) Fault
  refused fault = Err fault

  no_both : (fault : Fault) (xs : List A) → refused fault ≡ given xs → ⊥
  no_both fault xs e = cc

  first_refused : (x : X) (xs : List X) (front : List A) (fault : Fault) → f x ≡ Err fault → left f (x ∷ xs) front ≡ Err fault
  first_refused x xs front fault e = ap (λ (r : Result A Fault). with_front front (r and λ y. every (map f xs) and λ ys. Ok (y ∷ ys))) e

  on_by : (x : X) (xs ys : List X) (front after : List A) → ((front : List A) → left f xs front ≡ Ok after → left f (xs ++ ys) front ≡ left f ys after)
      → left f (x ∷ xs) front ≡ Ok after → (r : Result A Fault) → f x ≡ r → left f (x ∷ (xs ++ ys)) front ≡ left f ys after
  on_by x xs ys front after more h (Ok y) e = one_on f x (xs ++ ys) front y e ∙ more (front ++ y ∷ []) (sym (one_on f x xs front y e) ∙ h)
  on_by x xs ys front after more h (Err fault) e = absurd (no_both fault after (sym (first_refused x xs front fault e) ∙ h))

  -- where the first part is given, the second is left
  pub left_on : (xs ys : List X) (front after : List A) → left f xs front ≡ Ok after → left f (xs ++ ys) front ≡ left f ys after
  left_on [] ys front after h = ap (λ (vs : List A). left f ys vs) (sym (append-nil front) ∙ ok_is h)
  left_on (x ∷ xs) ys front after h = on_by x xs ys front after (λ before is. left_on xs ys before after is) h (f x) refl

  refused_by : (x : X) (xs ys : List X) (front : List A) (fault : Fault) → ((front : List A) → left f xs front ≡ Err fault → left f (xs ++ ys) front ≡ Err fault)
      → left f (x ∷ xs) front ≡ Err fault → (r : Result A Fault) → f x ≡ r → left f (x ∷ (xs ++ ys)) front ≡ Err fault
  refused_by x xs ys front fault more h (Ok y) e = one_on f x (xs ++ ys) front y e ∙ more (front ++ y ∷ []) (sym (one_on f x xs front y e) ∙ h)
  refused_by x xs ys front fault more h (Err other) e = first_refused x (xs ++ ys) front other e ∙ (sym (first_refused x xs front other e) ∙ h)

  -- where the first part is refused, so is the whole
  pub left_refused : (xs ys : List X) (front : List A) (fault : Fault) → left f xs front ≡ Err fault → left f (xs ++ ys) front ≡ Err fault
  left_refused [] ys front fault h = absurd (no_both fault (front ++ []) (sym h))
  left_refused (x ∷ xs) ys front fault h = refused_by x xs ys front fault (λ before is. left_refused xs ys before fault is) h (f x) refl

-- ---- how far a cursor is

-- how many places may come
abbrev pub places_from : Option ℤ → ℕ
places_from None = 0
places_from (Some (pos n)) = 1 + (2 ^ 63 - n)
places_from (Some (negsuc n)) = 2 ^ 63 + 2 + n

-- ---- what was read so far

module _ {P K : Type 0} (below : P → K) (tells : K → Bool) (limits : K → Limits) (pages : P → PageMap) (count : P → ℕ) (failures : P → ℕ × ℕ) where
  -- What is so after some batches: what is left of the tree decides.
  pub record HasRead {A : Type 0} (f : Entry → Result A Fault) (old now : P) (root at_root : ℕ) (next : Option ℤ) (values : List A) : Type 0 where
    pub stays : Stays below pages count failures {T = ⊤} (Ok tt) old now
    pub same_root : at_root ≡ root
    pub read : IsTrue (tells (below old)) → (rows : List Entry) (used : List ℕ) → AreWhole (limits (below old)).page (pages old) → IsTableTree (pages old) (limits (below old)).page root rows used
        → left f (rows_from next rows) values ≡ every (map f rows)

  pub at_start : {A : Type 0} (f : Entry → Result A Fault) (old : P) (root at_root : ℕ) (next : Option ℤ) → at_root ≡ root → BeginsAll next → HasRead f old old root at_root next []
  at_start f old root at_root next same begin = record {
    stays = record { kept = refl; same = refl; counted = refl; causes = record { db = omega arith; log = omega arith; why = tt } };
    same_root = same;
    read = λ told rows used whole tree. ap (λ (them : List Entry). left f them []) (begin (pages old) (limits (below old)).page root rows used tree) ∙ begins f rows;
  }

  -- what a batch says of the pages as they were
  batch_since : (old mid : P) (root at_root : ℕ) (next later : Option ℤ) (batch : List Entry) (result : Result ⊤ Fault) → Stays below pages count failures {T = ⊤} (Ok tt) old mid → at_root ≡ root
      → (IsTrue (tells (below mid)) → GivesBatch (pages mid) (limits (below mid)).page at_root next later batch result) → IsTrue (tells (below old)) → GivesBatch (pages old) (limits (below old)).page root next later batch result
  batch_since old mid root at_root next later batch result stays same gives told =
      subst (λ (n : ℕ). GivesBatch (pages old) (limits (below old)).page n next later batch result) same
      (subst (λ (m : PageMap). GivesBatch m (limits (below old)).page at_root next later batch result) stays.same
      (subst (λ (k : K). GivesBatch (pages mid) (limits k).page at_root next later batch result) stays.kept (gives (subst (λ (k : K). IsTrue (tells k)) (sym stays.kept) told))))

  module _ {A : Type 0} (f : Entry → Result A Fault) (old mid : P) (root at_root : ℕ) (next later : Option ℤ) (values : List A) (batch : List Entry) (has : HasRead f old mid root at_root next values) where
    -- the tree's rows, where the batch comes next
    read_next : (IsTrue (tells (below mid)) → GivesBatch (pages mid) (limits (below mid)).page at_root next later batch (Ok tt)) → IsTrue (tells (below old)) → (rows : List Entry) (used : List ℕ)
        → AreWhole (limits (below old)).page (pages old) → IsTableTree (pages old) (limits (below old)).page root rows used → left f (batch ++ rows_from later rows) values ≡ every (map f rows)
    read_next gives told rows used whole tree =
        let batch_is = batch_since old mid root at_root next later batch (Ok tt) has.stays has.same_root gives told rows used whole tree in
        ap (λ (them : List Entry). left f them values) (sym batch_is.0) ∙ has.read told rows used whole tree

    pub reads_on : (new : P) (new_root : ℕ) (after : List A) → new_root ≡ at_root → Stays below pages count failures {T = ⊤} (Ok tt) old new
        → (IsTrue (tells (below mid)) → GivesBatch (pages mid) (limits (below mid)).page at_root next later batch (Ok tt)) → left f batch values ≡ Ok after → HasRead f old new root new_root later after
    reads_on new new_root after same stays gives is = record {
      stays = stays;
      same_root = same ∙ has.same_root;
      read = λ told rows used whole tree. sym (left_on f batch (rows_from later rows) values after is) ∙ read_next gives told rows used whole tree;
    }

    -- a row of the batch is refused
    pub stops_there : (fault : Fault) → (IsTrue (tells (below mid)) → GivesBatch (pages mid) (limits (below mid)).page at_root next later batch (Ok tt)) → Refuses fault (left f batch values)
        → IsTrue (tells (below old)) → (rows : List Entry) (used : List ℕ) → AreWhole (limits (below old)).page (pages old) → IsTableTree (pages old) (limits (below old)).page root rows used
        → IsOutside fault ⊎ (every (map f rows) ≡ Err fault)
    stops_there fault gives refuses told rows used whole tree = elim (refused_so fault (left f batch values) refuses) [
      | inl memory ↦ inl (inl memory)
      | inr is ↦ inr (sym (read_next gives told rows used whole tree) ∙ left_refused f batch (rows_from later rows) values fault is)
    ]

    -- the next batch isn't read
    pub batch_refused : (fault : Fault) → (IsTrue (tells (below mid)) → GivesBatch (pages mid) (limits (below mid)).page at_root next later batch (Err fault))
        → IsTrue (tells (below old)) → (rows : List Entry) (used : List ℕ) → AreWhole (limits (below old)).page (pages old) → IsTableTree (pages old) (limits (below old)).page root rows used → IsOutside fault
    batch_refused fault gives told rows used whole tree = batch_since old mid root at_root next later batch (Err fault) has.stays has.same_root gives told rows used whole tree

    -- at the end all was read
    pub read_all : next ≡ None → IsTrue (tells (below old)) → (rows : List Entry) (used : List ℕ) → AreWhole (limits (below old)).page (pages old) → IsTableTree (pages old) (limits (below old)).page root rows used
        → every (map f rows) ≡ Ok values
    read_all none told rows used whole tree =
        sym (has.read told rows used whole tree) ∙ ap (λ (at : Option ℤ). left f (rows_from at rows) values) none ∙ ap (λ (vs : List A). given f vs) (append-nil values)
