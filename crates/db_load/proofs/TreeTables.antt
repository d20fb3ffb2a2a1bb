-- What the rows of a tree tell is listed batch by batch.
use Rattle.std.proofs.lemmas.Int.{ints}
use Rattle.std.proofs.Common.{◌≡◌, refl, sym, ap, subst, ◌∙◌, ℕ, ℤ, pos, negsuc, ◌<ℤ◌, ◌<◌, ◌+◌, ◌-◌, ◌^◌, Bool, List, [], ◌∷◌, ◌++◌, append_assoc, Option, Some, None, Result, Ok, Err, IsTrue, arith}
use Rattle.std.proofs.lemmas.List.{append-nil}
use Rattle.std.specs.Prelude.{IfErr, IfOk, IsErrAnd, MatchResult, OnOk, ⊤}
use Rattle.sqlval.specs.Faults.{IsOrOutside, IsOutside}
use Rattle.sqlval.specs.declared.fault.Fault.{Fault}
use Rattle.sqlval.specs.declared.fault.Fault.TheVariants.{Memory}
use Rattle.tree_leaf.specs.Leaf.{Entry}
use Rattle.pages.specs.Calls.{Limits, Stays}
use Rattle.pages.specs.Map.{PageMap, AreWhole}
use Rattle.tree_table.specs.Rows.{rows_from}
use Rattle.tree_table.specs.Scanning.{BeginsAll, GivesBatch, IsForward}
use Rattle.tree_table.specs.Tree.{IsTableTree}
use Rattle.catalog.specs.Listed.{Listed}
use Rattle.db_load.specs.Reading.{AreIndexed, Finds, FindsRow, IsLoading, LoadsNext}

pub memory_passed : {X : Type 0} (P : X → Type 0) (r : Result X Fault) (f : Fault) → IsErrAnd r (λ e. e ≡ f) → f ≡ Memory → MatchResult r P (λ fault. fault ≡ Memory)
memory_passed P (Ok x) f is why = absurd is
memory_passed P (Err e) f is why = is ∙ why

pub outside_matched : {X : Type 0} (P : X → Type 0) (r : Result X Fault) (f : Fault) → IsErrAnd r (λ e. e ≡ f) → IsOutside f → MatchResult r P IsOutside
outside_matched P (Ok x) f is why = absurd is
outside_matched P (Err e) f is why = subst IsOutside (sym is) why

pub outside_passed : {X : Type 0} (P : X → Type 0) (r : Result X Fault) (f : Fault) → IsErrAnd r (λ e. e ≡ f) → IsOutside f → IsOrOutside P r
outside_passed P (Ok x) f is why = absurd is
outside_passed P (Err e) f is why = subst IsOutside (sym is) why

pub if_refused : {X : Type 0} (r : Result X Fault) (f : Fault) → IsErrAnd r (λ e. e ≡ f) → IsOutside f → IfErr r IsOutside
if_refused (Ok x) f is why = tt
if_refused (Err e) f is why = subst IsOutside (sym is) why

pub nothing_told : {X : Type 0} (P : X → Type 0) (r : Result X Fault) (f : Fault) → IsErrAnd r (λ e. e ≡ f) → IfOk r P
nothing_told P (Ok x) f is = absurd is
nothing_told P (Err e) f is = tt

pub none_found : {X : Type 0} (A : Type 0) (r : Result X Fault) (f : Fault) → IsErrAnd r (λ e. e ≡ f) → OnOk r A
none_found A (Ok x) f is = absurd is
none_found A (Err e) f is = tt

-- ---- rows after rows

pub finds_both : (first : Bool) (pages : ℕ) (rows more : List Entry) (old mid new : Listed) → Finds first pages rows old mid → Finds first pages more mid new → Finds first pages (rows ++ more) old new
finds_both first pages [] more old mid new same later = subst (λ (ts : Listed). Finds first pages more ts new) same later
finds_both first pages (row ∷ rows) more old mid new (then, finds, rest) later = (then, finds, finds_both first pages rows more then mid new rest later)

pub finds_one : (first : Bool) (pages : ℕ) (rows up : List Entry) (row : Entry) (old mid new : Listed) → up ≡ rows ++ row ∷ [] → Finds first pages rows old mid → FindsRow first pages row mid new
    → Finds first pages up old new
finds_one first pages rows up row old mid new is so_far finds =
    subst (λ (es : List Entry). Finds first pages es old new) (sym is) (finds_both first pages rows (row ∷ []) old mid new so_far (new, finds, refl))

-- these rows tell what was listed, and those are left
pub record AreFound (first : Bool) (pages : ℕ) (rows left : List Entry) (start here : Listed) : Type 0 where
  pub front : List Entry
  pub parts : rows ≡ front ++ left
  pub finds : Finds first pages front start here

module _ {P K : Type 0} (below : P → K) (tells : K → Bool) (limits : K → Limits) (map : P → PageMap) (count : P → ℕ) (failures : P → ℕ × ℕ) (first : Bool) (pages : ℕ) where
  -- What is so after some batches.
  pub record HasLoaded (old now : P) (root : ℕ) (next : Option ℤ) (start here : Listed) : Type 0 where
    pub stays : Stays below map count failures {T = ⊤} (Ok tt) old now
    pub same_root : root ≡ 1
    pub loads : IsTrue (tells (below old)) → (listed : Listed) (rows : List Entry) (used : List ℕ) → AreWhole (limits (below old)).page (map old) → IsTableTree (map old) (limits (below old)).page 1 rows used
        → AreIndexed listed → IsLoading first pages listed rows start → IsLoading first pages listed (rows_from next rows) here
    pub told : IsTrue (tells (below old)) → (rows : List Entry) (used : List ℕ) → AreWhole (limits (below old)).page (map old) → IsTableTree (map old) (limits (below old)).page 1 rows used
        → AreFound first pages rows (rows_from next rows) start here

  pub at_start : (old : P) (root : ℕ) (next : Option ℤ) (start : Listed) → root ≡ 1 → BeginsAll next → HasLoaded old old root next start start
  at_start old root next start same begin = record {
    stays = record { kept = refl; same = refl; counted = refl; causes = record { db = omega arith; log = omega arith; why = tt } };
    same_root = same;
    loads = λ told listed rows used whole tree sound l.
        subst (λ (es : List Entry). IsLoading first pages listed es start) (sym (begin (map old) (limits (below old)).page 1 rows used tree)) l;
    told = λ told rows used whole tree. record { front = []; parts = sym (begin (map old) (limits (below old)).page 1 rows used tree); finds = refl };
  }

  module _ (old mid : P) (root : ℕ) (next later : Option ℤ) (start here : Listed) (batch : List Entry) (has : HasLoaded old mid root next start here) where
    -- what a batch says of the pages as they were
    batch_since : (result : Result ⊤ Fault) → (IsTrue (tells (below mid)) → GivesBatch (map mid) (limits (below mid)).page root next later batch result) → IsTrue (tells (below old))
        → GivesBatch (map old) (limits (below old)).page 1 next later batch result
    batch_since result gives told =
        subst (λ (n : ℕ). GivesBatch (map old) (limits (below old)).page n next later batch result) has.same_root
        (subst (λ (m : PageMap). GivesBatch m (limits (below old)).page root next later batch result) has.stays.same
        (subst (λ (k : K). GivesBatch (map mid) (limits k).page root next later batch result) has.stays.kept (gives (subst (λ (k : K). IsTrue (tells k)) (sym has.stays.kept) told))))

    -- the batch and the rows after it are left
    left_now : (IsTrue (tells (below mid)) → GivesBatch (map mid) (limits (below mid)).page root next later batch (Ok tt))
        → IsTrue (tells (below old)) → (listed : Listed) (rows : List Entry) (used : List ℕ) → AreWhole (limits (below old)).page (map old) → IsTableTree (map old) (limits (below old)).page 1 rows used
        → AreIndexed listed → IsLoading first pages listed rows start → IsLoading first pages listed (batch ++ rows_from later rows) here
    left_now gives told listed rows used whole tree sound l =
        subst (λ (es : List Entry). IsLoading first pages listed es here) (batch_since (Ok tt) gives told rows used whole tree).0 (has.loads told listed rows used whole tree sound l)

    pub loads_on : (new : P) (new_root : ℕ) (after : Listed) → new_root ≡ root → Stays below map count failures {T = ⊤} (Ok tt) old new
        → (IsTrue (tells (below mid)) → GivesBatch (map mid) (limits (below mid)).page root next later batch (Ok tt)) → LoadsNext first pages batch here after (Ok tt) → Finds first pages batch here after
        → HasLoaded old new new_root later start after
    loads_on new new_root after same stays gives loaded finds = record {
      stays = stays;
      same_root = same ∙ has.same_root;
      loads = λ told listed rows used whole tree sound l. loaded listed (rows_from later rows) sound (left_now gives told listed rows used whole tree sound l);
      told = λ told rows used whole tree.
          (let so_far = has.told told rows used whole tree in
          record {
            front = so_far.front ++ batch;
            parts = so_far.parts ∙ (ap (λ es. so_far.front ++ es) (batch_since (Ok tt) gives told rows used whole tree).0 ∙ sym (append_assoc so_far.front batch (rows_from later rows)));
            finds = finds_both first pages so_far.front batch start here after so_far.finds finds;
          });
    }

    -- a row of the batch isn't read
    pub stops_there : (f : Fault) (after : Listed) → (IsTrue (tells (below mid)) → GivesBatch (map mid) (limits (below mid)).page root next later batch (Ok tt)) → LoadsNext first pages batch here after (Err f)
        → IsTrue (tells (below old)) → (listed : Listed) (rows : List Entry) (used : List ℕ) → AreWhole (limits (below old)).page (map old) → IsTableTree (map old) (limits (below old)).page 1 rows used
        → AreIndexed listed → IsLoading first pages listed rows start → f ≡ Memory
    stops_there f after gives loaded told listed rows used whole tree sound l = loaded listed (rows_from later rows) sound (left_now gives told listed rows used whole tree sound l)

    -- the next batch isn't read
    pub batch_refused : (f : Fault) → (IsTrue (tells (below mid)) → GivesBatch (map mid) (limits (below mid)).page root next later batch (Err f))
        → IsTrue (tells (below old)) → (rows : List Entry) (used : List ℕ) → AreWhole (limits (below old)).page (map old) → IsTableTree (map old) (limits (below old)).page 1 rows used → IsOutside f
    batch_refused f gives told rows used whole tree = batch_since (Err f) gives told rows used whole tree

    -- at the end all rows were read
    pub all_loaded : next ≡ None
        → IsTrue (tells (below old)) → (listed : Listed) (rows : List Entry) (used : List ℕ) → AreWhole (limits (below old)).page (map old) → IsTableTree (map old) (limits (below old)).page 1 rows used
        → AreIndexed listed → IsLoading first pages listed rows start → IsLoading first pages listed [] here
    all_loaded none told listed rows used whole tree sound l =
        subst (λ (es : List Entry). IsLoading first pages listed es here) (ap (λ at. rows_from at rows) none) (has.loads told listed rows used whole tree sound l)

    pub all_told : next ≡ None
        → IsTrue (tells (below old)) → (rows : List Entry) (used : List ℕ) → AreWhole (limits (below old)).page (map old) → IsTableTree (map old) (limits (below old)).page 1 rows used
        → Finds first pages rows start here
    all_told none told rows used whole tree =
        let so_far = has.told told rows used whole tree in
        let all : rows ≡ so_far.front = so_far.parts ∙ (ap (λ at. so_far.front ++ rows_from at rows) none ∙ append-nil so_far.front) in
        subst (λ (es : List Entry). Finds first pages es start here) (sym all) so_far.finds

-- ---- how many places a cursor may still come to

abbrev pub places_from : Option ℤ → ℕ
places_from None = 0
places_from (Some (pos n)) = 1 + (2 ^ 63 - n)
places_from (Some (negsuc n)) = 2 ^ 63 + 2 + n

falls : (before rowid : ℤ) → before <ℤ rowid → rowid <ℤ pos (2 ^ 63) → places_from (Some rowid) < places_from (Some before)
falls (pos n) (pos m) lt less = omega (arith, ints, lt, less)
falls (pos n) (negsuc m) lt less = absurd (omega (arith, ints, lt))
falls (negsuc n) (pos m) lt less = omega (arith, ints, lt, less)
falls (negsuc n) (negsuc m) lt less = omega (arith, ints, lt, less)

some_left : (before : ℤ) → 0 < places_from (Some before)
some_left (pos n) = omega arith
some_left (negsuc n) = omega arith

pub goes_forward : (old new : Option ℤ) → (old ≡ None → ⊥) → IsForward old new → places_from new < places_from old
goes_forward None new some forward = absurd (some refl)
goes_forward (Some before) None some forward = some_left before
goes_forward (Some before) (Some rowid) some forward = falls before rowid forward.0 forward.1
