-- Places that are noted.
use Rattle.std.proofs.Common.{◌≡◌, ◌⊎◌, inl, inr, refl, sym, ap, subst, ◌∙◌, ℕ, zero, suc, ◌+◌, ◌<◌, ◌≤◌, Bool, true, false, List, [], ◌∷◌, ◌++◌, length, slice_index_or, Option, Some, None, arith}
use Rattle.std.proofs.lemmas.Bool.{false≢true}
use Rattle.std.proofs.lemmas.List.{length-append, length-set}
use Rattle.std.proofs.lemmas.List.Elements.{Contains-append_cases, Contains-append_left, Contains-append_right}
use Rattle.std.specs.List.{Contains}
use Rattle.std.specs.Prelude.{◌||◌, slice_get, slice_set}
use Rattle.std.specs.declared.alloc.Global.{Global}
use Rattle.std.specs.declared.rc.Rc.{Rc}
use Rattle.catalog.specs.Listed.{shared}
use Rattle.catalog.specs.declared.tables.Trigger.{Trigger}
use Rattle.trigger_bind.specs.Needs.{IsNeeded, IsPlaceOf, Notes, NotesPlace, NotesThose, unneeded}
use Rattle.trigger_bind.specs.declared.needs.Needs.{Needs}
use Rattle.trigger_bind.proofs.Among.{in_either, in_here, in_none, is_within, one_there}

-- ---- the places that are needed

set_still : (bs : List Bool) (n i : ℕ) → slice_get bs i ≡ Some true → slice_get (slice_set bs n true) i ≡ Some true
set_still [] n i is = is
set_still (b ∷ bs) zero zero is = refl
set_still (b ∷ bs) zero (suc i) is = is
set_still (b ∷ bs) (suc n) zero is = is
set_still (b ∷ bs) (suc n) (suc i) is = set_still bs n i is

set_or : (bs : List Bool) (n i : ℕ) → slice_get (slice_set bs n true) i ≡ Some true → (slice_get bs i ≡ Some true) ⊎ (i ≡ n)
set_or [] n i is = inl is
set_or (b ∷ bs) zero zero is = inr refl
set_or (b ∷ bs) zero (suc i) is = inl is
set_or (b ∷ bs) (suc n) zero is = inl is
set_or (b ∷ bs) (suc n) (suc i) is = by (set_or bs n i is)
  where
    by : (slice_get bs i ≡ Some true) ⊎ (i ≡ n) → (slice_get bs i ≡ Some true) ⊎ (suc i ≡ suc n)
    by (inl here) = inl here
    by (inr same) = inr (ap suc same)

set_here : (bs : List Bool) (n : ℕ) → n < length bs → slice_get (slice_set bs n true) n ≡ Some true
set_here [] n lt = absurd (omega (arith, lt))
set_here (b ∷ bs) zero lt = refl
set_here (b ∷ bs) (suc n) lt = set_here bs n (omega (arith, lt))

same_test : (b c : Bool) → (let l : Option Bool = Some b in l) ≡ Some c → b ≡ c
same_test b c e = cc

none_test : (b : Bool) → (let l : Option Bool = None in l) ≡ Some b → ⊥
none_test b e = absurd cc

one_fewer : (bs : List Bool) (n : ℕ) → slice_get bs n ≡ Some false → unneeded (slice_set bs n true) + 1 ≡ unneeded bs
one_fewer [] n is = absurd (none_test false is)
one_fewer (true ∷ bs) zero is = absurd (false≢true (sym (same_test true false is)))
one_fewer (false ∷ bs) zero is = refl
one_fewer (true ∷ bs) (suc n) is = one_fewer bs n is
one_fewer (false ∷ bs) (suc n) is = (let e = one_fewer bs n is in omega (arith, e))

-- one item more
get_last : {A : Type 0} (xs : List A) (x y : A) (i : ℕ) → slice_get (xs ++ x ∷ []) i ≡ Some y → (slice_get xs i ≡ Some y) ⊎ (x ≡ y)
get_last [] x y zero is = inr cc
get_last [] x y (suc i) is = absurd cc
get_last (z ∷ xs) x y zero is = inl is
get_last (z ∷ xs) x y (suc i) is = get_last xs x y i is

pub not_needed : (bs : List Bool) → ((i : ℕ) → IsNeeded bs i → ⊥) → (i : ℕ) → IsNeeded (bs ++ false ∷ []) i → ⊥
not_needed bs none i is = by (get_last bs false true i is)
  where
    by : (slice_get bs i ≡ Some true) ⊎ (false ≡ true) → ⊥
    by (inl before) = none i before
    by (inr last) = false≢true last

-- ---- what noting does

pub notes_nothing : (Is : ℕ → Type 0) (needs : Needs) → ((i : ℕ) → Is i → ⊥) → Notes Is needs needs
notes_nothing Is needs none = record {
  same = refl;
  keeps = λ i is. is;
  noted = λ i is. inl is;
  all = λ i is. absurd (none i is);
  stays = λ i is. is;
  fresh = λ i is. inl is;
  cost_is = omega arith;
}

pub notes_again : (needs : Needs) (place : ℕ) → IsNeeded needs.needed.items place → NotesPlace place needs needs
notes_again needs place needed = record {
  same = refl;
  keeps = λ i is. is;
  noted = λ i is. inl is;
  all = λ i same. subst (IsNeeded needs.needed.items) (sym same) needed;
  stays = λ i is. is;
  fresh = λ i is. inl is;
  cost_is = omega arith;
}

pub notes_then : (First Second Is : ℕ → Type 0) (a b c : Needs) → ((i : ℕ) → First i → Is i) → ((i : ℕ) → Second i → Is i) → ((i : ℕ) → Is i → First i ⊎ Second i) → Notes First a b → Notes Second b c → Notes Is a c
notes_then First Second Is a b c first second either one two = record {
  same = two.same ∙ one.same;
  keeps = λ i is. two.keeps i (one.keeps i is);
  noted = λ i is. noted i (two.noted i is);
  all = λ i is. all i (either i is);
  stays = λ i is. two.stays i (one.stays i is);
  fresh = λ i is. fresh i (two.fresh i is);
  cost_is = (let m = one.cost_is in let n = two.cost_is in omega (arith, m, n));
}
  where
    all : (i : ℕ) → First i ⊎ Second i → IsNeeded c.needed.items i
    all i (inl is) = two.keeps i (one.all i is)
    all i (inr is) = two.all i is

    noted : (i : ℕ) → IsNeeded b.needed.items i ⊎ (Contains c.queue.items i × Second i) → IsNeeded a.needed.items i ⊎ (Contains c.queue.items i × Is i)
    noted i (inl before) = from_first (one.noted i before)
      where
        from_first : IsNeeded a.needed.items i ⊎ (Contains b.queue.items i × First i) → IsNeeded a.needed.items i ⊎ (Contains c.queue.items i × Is i)
        from_first (inl is) = inl is
        from_first (inr is) = inr (two.stays i is.0, first i is.1)
    noted i (inr is) = inr (is.0, second i is.1)

    fresh : (i : ℕ) → Contains b.queue.items i ⊎ IsNeeded c.needed.items i → Contains a.queue.items i ⊎ IsNeeded c.needed.items i
    fresh i (inl before) = from_first (one.fresh i before)
      where
        from_first : Contains a.queue.items i ⊎ IsNeeded b.needed.items i → Contains a.queue.items i ⊎ IsNeeded c.needed.items i
        from_first (inl is) = inl is
        from_first (inr is) = inr (two.keeps i is)
    fresh i (inr is) = inr is

pub notes_same : (Is Still : ℕ → Type 0) (a b : Needs) → ((i : ℕ) → Is i → Still i) → ((i : ℕ) → Still i → Is i) → Notes Is a b → Notes Still a b
notes_same Is Still a b to back one = record {
  same = one.same;
  keeps = one.keeps;
  noted = λ i is. noted i (one.noted i is);
  all = λ i is. one.all i (back i is);
  stays = one.stays;
  fresh = one.fresh;
  cost_is = one.cost_is;
}
  where
    noted : (i : ℕ) → IsNeeded a.needed.items i ⊎ (Contains b.queue.items i × Is i) → IsNeeded a.needed.items i ⊎ (Contains b.queue.items i × Still i)
    noted i (inl is) = inl is
    noted i (inr is) = inr (is.0, to i is.1)

pub notes_one : (old new : Needs) (n : ℕ) → slice_get old.needed.items n ≡ Some false → new.needed.items ≡ slice_set old.needed.items n true → new.queue.items ≡ old.queue.items ++ n ∷ []
    → NotesPlace n old new
notes_one old new n free needed queue = record {
  same = ap length needed ∙ length-set old.needed.items n true;
  keeps = λ i is. ap (λ (bs : List Bool). slice_get bs i) needed ∙ set_still old.needed.items n i is;
  noted = λ i is. noted i (set_or old.needed.items n i (sym (ap (λ (bs : List Bool). slice_get bs i) needed) ∙ is));
  all = λ i same. at_last i same;
  stays = λ i is. subst (λ ns. Contains ns i) (sym queue) (Contains-append_left old.queue.items (n ∷ []) i is);
  fresh = λ i is. fresh i (Contains-append_cases old.queue.items (n ∷ []) i (subst (λ ns. Contains ns i) queue is));
  cost_is = (let fewer = one_fewer old.needed.items n free in let e = ap unneeded needed in let l = ap length queue ∙ length-append old.queue.items (n ∷ []) in omega (arith, fewer, e, l));
}
  where
    here : n < length old.needed.items
    here = is_within old.needed.items n false free

    at_last : (i : ℕ) → i ≡ n → IsNeeded new.needed.items i
    at_last i same = subst (IsNeeded new.needed.items) (sym same) (ap (λ (bs : List Bool). slice_get bs n) needed ∙ set_here old.needed.items n here)

    noted : (i : ℕ) → (slice_get old.needed.items i ≡ Some true) ⊎ (i ≡ n) → IsNeeded old.needed.items i ⊎ (Contains new.queue.items i × (i ≡ n))
    noted i (inl is) = inl is
    noted i (inr same) =
        inr (subst (λ ns. Contains ns i) (sym queue) (Contains-append_right old.queue.items (n ∷ []) i (subst (λ k. Contains (n ∷ []) k) (sym same) (in_here n []))), same)

    fresh : (i : ℕ) → Contains old.queue.items i ⊎ Contains (n ∷ []) i → Contains old.queue.items i ⊎ IsNeeded new.needed.items i
    fresh i (inl before) = inl before
    fresh i (inr last) = inr (by (in_either i n [] last))
      where
        by : (n ≡ i) ⊎ Contains [] i → IsNeeded new.needed.items i
        by (inl same) = at_last i (sym same)
        by (inr none) = absurd (in_none i none)

-- ---- the places of triggers that pass a test

module _ (ts : List Trigger) where
  or_either : (p q : Trigger → Bool) (t : Trigger) → (p t || q t) ≡ true → (p t ≡ true) ⊎ (q t ≡ true)
  or_either p q t h = by (p t) refl h
    where
      by : (b : Bool) → p t ≡ b → (b || q t) ≡ true → (p t ≡ true) ⊎ (q t ≡ true)
      by true e k = inl e
      by false e k = inr k

  or_second : (a b : Bool) → b ≡ true → (a || b) ≡ true
  or_second true b h = refl
  or_second false b h = h

  -- first those of one test, then those of another
  pub notes_both : (p q w : Trigger → Bool) (a b c : Needs) → ((t : Trigger) → w t ≡ (p t || q t)) → NotesThose ts p a b → NotesThose ts q b c → NotesThose ts w a c
  notes_both p q w a b c is one two =
      notes_then (IsPlaceOf ts p) (IsPlaceOf ts q) (IsPlaceOf ts w) a b c
      (λ i at. (at.0, at.1, is at.0 ∙ ap (λ x. x || q at.0) at.2))
      (λ i at. (at.0, at.1, is at.0 ∙ or_second (p at.0) (q at.0) at.2))
      (λ i at. by i at.0 at.1 (or_either p q at.0 (sym (is at.0) ∙ at.2))) one two
    where
      by : (i : ℕ) (t : Trigger) → slice_get ts i ≡ Some t → (p t ≡ true) ⊎ (q t ≡ true) → IsPlaceOf ts p i ⊎ IsPlaceOf ts q i
      by i t at (inl so) = inl (t, at, so)
      by i t at (inr so) = inr (t, at, so)

  pub notes_none : (p : Trigger → Bool) (needs : Needs) → ((t : Trigger) → p t ≡ false) → NotesThose ts p needs needs
  notes_none p needs none = notes_nothing (IsPlaceOf ts p) needs (λ i at. false≢true (sym (none at.0) ∙ at.2))

-- ---- one trigger after another

below_or : (i n : ℕ) → i < suc n → (i < n) ⊎ (i ≡ n)
below_or zero zero lt = inr refl
below_or zero (suc n) lt = inl (omega arith)
below_or (suc i) zero lt = absurd (omega (arith, lt))
below_or (suc i) (suc n) lt = by (below_or i n (omega (arith, lt)))
  where
    by : (i < n) ⊎ (i ≡ n) → (suc i < suc n) ⊎ (suc i ≡ suc n)
    by (inl k) = inl (omega (arith, k))
    by (inr e) = inr (ap suc e)

-- the places of those before a place
abbrev pub IsBefore : List Trigger → (Trigger → Bool) → ℕ → ℕ → Type 0
IsBefore ts p place i = IsPlaceOf ts p i × (i < place)

pub shared_at : (hs : List (Rc Trigger Global)) (i : ℕ) (h : Rc Trigger Global) → i < length hs → h ≡ slice_index_or hs i h → slice_get (shared hs) i ≡ Some h.value
shared_at [] i h lt is = absurd (omega (arith, lt))
shared_at (y ∷ hs) zero h lt is = ap (λ (k : Rc Trigger Global). (let o : Option Trigger = Some k.value in o)) (sym is)
shared_at (y ∷ hs) (suc i) h lt is = shared_at hs i h (omega (arith, lt)) is

module _ (ts : List Trigger) (p : Trigger → Bool) (place : ℕ) where
  pub before_none : (needs : Needs) → Notes (IsBefore ts p 0) needs needs
  before_none needs = notes_nothing (IsBefore ts p 0) needs (λ i is. (let lt = is.1 in absurd (omega (arith, lt))))

  pub before_all : (a b : Needs) → length ts ≤ place → Notes (IsBefore ts p place) a b → NotesThose ts p a b
  before_all a b le notes = notes_same (IsBefore ts p place) (IsPlaceOf ts p) a b (λ i is. is.0) (λ i is. (is, (let lt = is_within ts i is.0 is.1 in omega (arith, lt, le)))) notes

  module _ (t : Trigger) (at : slice_get ts place ≡ Some t) (next : ℕ) (more : next ≡ suc place) where
    onward : (i : ℕ) → IsBefore ts p place i → IsBefore ts p next i
    onward i is = (is.0, (let lt = is.1 in omega (arith, lt, more)))

    split : (i : ℕ) → IsBefore ts p next i → (i < place) ⊎ (i ≡ place)
    split i is = below_or i place (let lt = is.1 in omega (arith, lt, more))

    pub one_chosen : (a b c : Needs) → p t ≡ true → Notes (IsBefore ts p place) a b → NotesPlace place b c → Notes (IsBefore ts p next) a c
    one_chosen a b c so one two =
        notes_then (IsBefore ts p place) (λ i. i ≡ place) (IsBefore ts p next) a b c onward
        (λ i e. ((t, ap (slice_get ts) e ∙ at, so), omega (arith, e, more))) (λ i is. by i is.0 (split i is)) one two
      where
        by : (i : ℕ) → IsPlaceOf ts p i → (i < place) ⊎ (i ≡ place) → IsBefore ts p place i ⊎ (i ≡ place)
        by i is (inl lt) = inl (is, lt)
        by i is (inr e) = inr e

    pub one_passed : (a b : Needs) → p t ≡ false → Notes (IsBefore ts p place) a b → Notes (IsBefore ts p next) a b
    one_passed a b not_so one = notes_same (IsBefore ts p place) (IsBefore ts p next) a b onward (λ i is. by i is.0 (split i is)) one
      where
        by : (i : ℕ) → IsPlaceOf ts p i → (i < place) ⊎ (i ≡ place) → IsBefore ts p place i
        by i is (inl lt) = (is, lt)
        by i is (inr e) = absurd (false≢true (sym not_so ∙ (ap p (one_there ts place t is.0 at (ap (slice_get ts) (sym e) ∙ is.1)) ∙ is.2)))
