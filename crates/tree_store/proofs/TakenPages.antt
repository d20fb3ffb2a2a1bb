-- Pages are taken one after the other: what is left decides.
use Rattle.std.proofs.Common.{◌≡◌, inl, inr, ℕ, ◌<◌, List, [], ◌∷◌, ◌++◌, length, refl, sym, ap, subst, ◌∙◌, arith, length-append}
use Rattle.std.proofs.lemmas.Bool.{cases_lt}
use Rattle.std.proofs.lemmas.List.{append_assoc, append-nil}
use Rattle.std.specs.Prelude.{Bool, IsTrue, ◌⊎◌, Result, Ok, Err, MatchResult, IsErrAnd}
use Rattle.sqlval.specs.declared.fault.Fault.{Fault}
use Rattle.sqlval.specs.declared.fault.Fault.TheVariants.{Full}
use Rattle.sqlval.specs.Faults.{IsOutside}
use Rattle.pages.specs.Calls.{Limits, Causes, IsOutsideOrFull}
use Rattle.pages.specs.Counting.{occurs}
use Rattle.pages.specs.Map.{PageMap}
use Rattle.freelist.specs.Calls.{AreFree, Takes, IsTaken}
use Rattle.tree_store.specs.Storing.{AreOlds}
use Rattle.tree_store.specs.Steps.{HasMoved, AreTaken, TakesMore}
use Rattle.tree_store.proofs.PutPages.{fresh_same}
use Rattle.tree_store.proofs.MovedPages.{free_now, moved_then, moved_beside, none_moved, none_at_all}
use Rattle.tree_store.proofs.WrittenPages.{unrefused}

-- no page is used yet
none_used : (map : PageMap) (size : ℕ) (free : List ℕ) → AreFree map size free → AreOlds map free []
none_used map size free are = record { there = tt; after = tt; once = are.once }

-- where there are as many numbers as were wanted, nothing is taken
pub taken_all : {T : Type 0} (view : T → List ℕ) (map : PageMap) (size : ℕ) (before : List ℕ) (count : ℕ) (x : T) → view x ≡ before → (length before < count → ⊥) → TakesMore view map map size before count (Ok x)
taken_all view map size before count x is done free are few = record {
  more = [];
  now_free = free;
  numbers_are = is ∙ sym (append-nil before);
  long = (let same = ap length is in elim (cases_lt (length before) count) [ inl lt ↦ absurd (done lt) | inr ge ↦ omega (arith, same, ge, few) ]);
  moved = none_moved map size free are.has;
  rule = inl refl;
}

taken_is : (old mid : PageMap) (size : ℕ) (free : List ℕ) (page : ℕ) → (t : IsTaken old mid size free page) → HasMoved old mid size [] free (page ∷ []) t.now_free
taken_is old mid size free page t = record { has = t.has; moves = t.moves; header = t.header }

-- the file grew only where nothing was free, and nothing is
pub grew_alone : (old mid : PageMap) (size : ℕ) (free : List ℕ) (page : ℕ) → (t : IsTaken old mid size free page) → (length mid ≡ length old) ⊎ ((free ≡ []) × (t.now_free ≡ []))
grew_alone old mid size free page t = t.rule

-- one more page was taken, and then the others
taken_next : {T : Type 0} (view : T → List ℕ) (old mid new : PageMap) (size : ℕ) (free before : List ℕ) (count page : ℕ) (x : T) → AreFree old size free → length before < count → (t : IsTaken old mid size free page)
    → AreTaken mid new size t.now_free (before ++ page ∷ []) count (view x) → AreTaken old new size free before count (view x)
taken_next view old mid new size free before count page x are some t rest = record {
  more = page ∷ rest.more;
  now_free = rest.now_free;
  numbers_are = rest.numbers_are ∙ append_assoc before (page ∷ []) rest.more;
  long = rest.long;
  moved = moved_then old mid new size [] free (page ∷ []) t.now_free (page ∷ rest.more) rest.now_free (taken_is old mid size free page t)
      (moved_beside mid new size [] t.now_free rest.more rest.now_free (page ∷ []) (page ∷ []) (page ∷ rest.more) rest.moved (λ n. omega arith) (λ n. omega arith));
  rule = elim (rest.rule) [
    | inl same ↦ elim (grew_alone old mid size free page t) [
      | inl before_same ↦ inl (same ∙ before_same)
      | inr grew ↦ inr (
        (let moves = (rest.moved).moves in none_at_all rest.now_free (λ n. (let at = moves.counts n in let no_fresh = fresh_same (length mid) (length new) n same in
            let gone = ap (occurs n) grew.1 in omega (arith, at, no_fresh, gone)))),
        some,
      )
    ]
    | inr grew ↦ inr (grew.0, some)
  ];
}

matched_taken : {T : Type 0} (view : T → List ℕ) (mid old new : PageMap) (size : ℕ) (free now_free before more : List ℕ) (count : ℕ) (result : Result T Fault) → length before < count
    → ((x : T) → AreTaken mid new size now_free more count (view x) → AreTaken old new size free before count (view x))
    → MatchResult result (λ x. AreTaken mid new size now_free more count (view x)) (λ fault. IsOutside fault ⊎ ((fault ≡ Full) × (length more < count)))
    → MatchResult result (λ x. AreTaken old new size free before count (view x)) (λ fault. IsOutside fault ⊎ ((fault ≡ Full) × (length before < count)))
matched_taken view mid old new size free now_free before more count (Ok x) some so is = so x is
matched_taken view mid old new size free now_free before more count (Err fault) some so (inl outside) = inl outside
matched_taken view mid old new size free now_free before more count (Err fault) some so (inr full) = inr (full.0, some)

-- where one more page was taken, what is left decides
pub takes_next : {T : Type 0} (view : T → List ℕ) (old mid new : PageMap) (size : ℕ) (before now : List ℕ) (count page : ℕ) (result : Result T Fault) → length before < count → now ≡ before ++ page ∷ [] → Takes old mid size (Ok page)
    → TakesMore view mid new size now count result → TakesMore view old new size before count result
takes_next view old mid new size before now count page result some now_is takes rest free are few =
    let t = takes free are in
    let moved = taken_is old mid size free page t in
    let are_now = free_now old mid size [] free (page ∷ []) t.now_free are (none_used old size free are) moved in
    let after = subst (λ (l : List ℕ). TakesMore view mid new size l count result) now_is rest in
    matched_taken view mid old new size free t.now_free before (before ++ page ∷ []) count result some
    (λ x taken. taken_next view old mid new size free before count page x are some t taken)
    (after t.now_free are_now (let long = length-append before (page ∷ []) in omega (arith, long, some)))

-- no page was taken
pub untaken : {T : Type 0} (view : T → List ℕ) (old mid any : PageMap) (size : ℕ) (before : List ℕ) (count : ℕ) (fault : Fault) (result : Result T Fault) → length before < count → Takes old mid size (Err fault) → IsErrAnd result (λ e. e ≡ fault)
    → TakesMore view old any size before count result
untaken view old mid any size before count fault (Ok x) some takes is free are few = absurd is
untaken view old mid any size before count fault (Err e) some takes is free are few =
    subst (λ (f : Fault). IsOutside f ⊎ ((f ≡ Full) × (length before < count))) (sym is) (as_more fault (takes free are)) where
      as_more : (fault : Fault) → IsOutsideOrFull fault → IsOutside fault ⊎ ((fault ≡ Full) × (length before < count))
      as_more fault (inl outside) = inl outside
      as_more fault (inr full) = inr (full, some)

-- memory was short
pub unkept : {T : Type 0} (view : T → List ℕ) (old any : PageMap) (size : ℕ) (before : List ℕ) (count : ℕ) (fault : Fault) (result : Result T Fault) → IsOutside fault → IsErrAnd result (λ e. e ≡ fault) → TakesMore view old any size before count result
unkept view old any size before count fault (Ok x) outside is free are few = absurd is
unkept view old any size before count fault (Err e) outside is free are few = inl (subst IsOutside (sym is) outside)

-- What was taken up to here: what is left decides.
pub record HasTaken {P K : Type 0} (below : P → K) (tells : K → Bool) (limits : K → Limits) (map : P → PageMap) (failures : P → ℕ × ℕ) (T : Type 0) (view : T → List ℕ) (old now : P) (count : ℕ) (before numbers : List ℕ) : Type 0 where
  pub kept : below now ≡ below old
  pub causes : Causes unrefused (failures old) (failures now) ⊥
  pub taken : IsTrue (tells (below old)) → (new : PageMap) (result : Result T Fault) → TakesMore view (map now) new (limits (below old)).page numbers count result → TakesMore view (map old) new (limits (below old)).page before count result

-- what taking a page does, it does from before the first call
pub takes_since : {P K : Type 0} (below : P → K) (tells : K → Bool) (limits : K → Limits) (old mid : P) (m new : PageMap) (result : Result ℕ Fault) → below mid ≡ below old
    → (IsTrue (tells (below mid)) → Takes m new (limits (below mid)).page result) → IsTrue (tells (below old)) → Takes m new (limits (below old)).page result
takes_since {P} {K} below tells limits old mid m new result kept takes told =
    subst (λ (k : K). Takes m new (limits k).page result) kept (takes (subst (λ (k : K). IsTrue (tells k)) (sym kept) told))
