-- What lies by rising name: where a name stands, one more among them, and some of them.
use Rattle.std.proofs.Common.{◌≡◌, sym, ap, ◌∙◌, subst, ℕ, zero, suc, ◌<◌, ◌≤◌, Bool, true, false, cond, List, [], ◌∷◌, length, filter, refl, slice_index_or, arith}
use Rattle.std.proofs.lemmas.Bool.{false≢true}
use Rattle.std.proofs.lemmas.Cmp.{nat_list_cmp_total}
use Rattle.std.proofs.lemmas.Map.Lookups.{exact_bytes}
use Rattle.std.proofs.lemmas.Map.Text.{is_eq-slice_cmp}
use Rattle.std.specs.Prelude.{Result, Ok, Err, IfOk, IfErr}
use Rattle.std.specs.List.{AllByRecursion, insert}
use Rattle.std.specs.List.Sorted.{IsBinarySearchResult, IsNonDecreasingBy}
use Rattle.std.specs.Ordering.{is_eq, ordering_index, ordering_reverse}
use Rattle.std.specs.declared.alloc.Global.{Global}
use Rattle.std.specs.declared.cmp.Ordering.{Ordering}
use Rattle.std.specs.declared.cmp.Ordering.TheVariants.{Less, Equal, Greater}
use Rattle.std.specs.declared.rc.Rc.{Rc}
use Rattle.sqlval.specs.Names.{folded, is_same_name}
use Rattle.catalog.specs.ByName.{HasNameAt, IsGapOfName, RiseBy, compared_names, in_handles}
use Rattle.catalog.specs.Database.{Name, name_order}

-- ---- the order of names

tests : (a b : Name) → is_same_name a b ≡ is_eq (compared_names a b)
tests a b = sym (is_eq-slice_cmp (folded a) (folded b))

pub less_differs : (a b : Name) → compared_names a b ≡ Less → is_same_name a b ≡ false
less_differs a b e = tests a b ∙ ap is_eq e

pub greater_differs : (a b : Name) → compared_names a b ≡ Greater → is_same_name a b ≡ false
greater_differs a b e = tests a b ∙ ap is_eq e

equal_same : (a b : Name) → compared_names a b ≡ Equal → is_same_name a b ≡ true
equal_same a b e = tests a b ∙ ap is_eq e

equal : (o : Ordering) → is_eq o ≡ true → o ≡ Equal
equal Less e = absurd (false≢true e)
equal Equal e = refl
equal Greater e = absurd (false≢true e)

pub same_folded : (a b : Name) → is_same_name a b ≡ true → folded a ≡ folded b
same_folded a b e = exact_bytes (folded a) (folded b) (equal (compared_names a b) (sym (tests a b) ∙ e))

at_most : (o : Ordering) → ordering_index o ≤ 2
at_most Less = omega arith
at_most Equal = omega arith
at_most Greater = omega arith

index_upto : (x y n : List ℕ) → name_order x y ≡ Less → ordering_index (name_order x n) ≤ ordering_index (name_order y n)
index_upto x y n e = by (name_order y n) refl
  where
    by : (o : Ordering) → name_order y n ≡ o → ordering_index (name_order x n) ≤ ordering_index o
    by Less f = subst (λ (r : Ordering). ordering_index r ≤ 0) (sym (nat_list_cmp_total.trans x y n e f)) (omega arith)
    by Equal f = subst (λ (r : Ordering). ordering_index r ≤ 1) (sym (subst (λ (m : List ℕ). name_order x m ≡ Less) (exact_bytes y n f) e)) (omega arith)
    by Greater f = at_most (name_order x n)

-- ---- where a name stands

first_upto : {A : Type 0} (own : A → Name) (h : Rc A Global) (hs : List (Rc A Global)) (name : Name) → AllByRecursion (λ k. compared_names (own h.value) (own k) ≡ Less) (in_handles hs)
    → (j : ℕ) (d : Rc A Global) → j < length hs → ordering_index (compared_names (own h.value) name) ≤ ordering_index (compared_names (own (slice_index_or hs j d).value) name)
first_upto own h [] name all j d lt = absurd (omega (arith, lt))
first_upto own h (k ∷ hs) name all zero d lt = index_upto (folded (own h.value)) (folded (own k.value)) (folded name) all.0
first_upto own h (k ∷ hs) name all (suc j) d lt = first_upto own h hs name all.1 j d (omega (arith, lt))

never_falls : {A : Type 0} (own : A → Name) (hs : List (Rc A Global)) (name : Name) → RiseBy own (in_handles hs)
    → IsNonDecreasingBy (λ (h : Rc A Global). ordering_index (compared_names (own h.value) name)) hs
never_falls own [] name rise i j d le lt = absurd (omega (arith, lt))
never_falls own (h ∷ hs) name rise zero zero d le lt = omega arith
never_falls own (h ∷ hs) name rise zero (suc j) d le lt = first_upto own h hs name rise.0 j d (omega (arith, lt))
never_falls own (h ∷ hs) name rise (suc i) zero d le lt = absurd (omega (arith, le))
never_falls own (h ∷ hs) name rise (suc i) (suc j) d le lt = never_falls own hs name rise.1 i j d (omega (arith, le)) (omega (arith, lt))

pub found : {A : Type 0} (own : A → Name) (hs : List (Rc A Global)) (name : Name) (r : Result ℕ ℕ) → IsBinarySearchResult (λ (h : Rc A Global). compared_names (own h.value) name) hs r
    → IfOk r (HasNameAt own name hs)
found own hs name (Ok at) is = λ d. equal_same (own (slice_index_or hs at d).value) name (is d)
found own hs name (Err at) is = tt

pub gap : {A : Type 0} (own : A → Name) (hs : List (Rc A Global)) (name : Name) (r : Result ℕ ℕ) → IsBinarySearchResult (λ (h : Rc A Global). compared_names (own h.value) name) hs r
    → RiseBy own (in_handles hs) → IfErr r (IsGapOfName own name hs)
gap own hs name (Ok at) is rise = tt
gap own hs name (Err at) is rise = is (never_falls own hs name rise)

pub gap_rest : {A : Type 0} (own : A → Name) (name : Name) (h : Rc A Global) (hs : List (Rc A Global)) (i : ℕ) → IsGapOfName own name (h ∷ hs) (suc i) → IsGapOfName own name hs i
gap_rest own name h hs i is = (λ k d low lt. is.0 (suc k) d (omega arith) (omega (arith, lt)), λ k d low lt. is.1 (suc k) d (omega (arith, low)) (omega (arith, lt)))

-- ---- one more

pub shared_insert : {A : Type 0} (hs : List (Rc A Global)) (i : ℕ) (h : Rc A Global) → in_handles (insert hs i h) ≡ insert (in_handles hs) i h.value
shared_insert [] zero h = refl
shared_insert [] (suc i) h = refl
shared_insert (k ∷ hs) zero h = refl
shared_insert (k ∷ hs) (suc i) h = ap (λ xs. k.value ∷ xs) (shared_insert hs i h)

all_insert : {A : Type 0} (P : A → Type 0) (hs : List (Rc A Global)) (i : ℕ) (h : Rc A Global) → P h.value → AllByRecursion P (in_handles hs) → AllByRecursion P (in_handles (insert hs i h))
all_insert P [] zero h p all = (p, tt)
all_insert P [] (suc i) h p all = (p, tt)
all_insert P (k ∷ hs) zero h p all = (p, all)
all_insert P (k ∷ hs) (suc i) h p all = (all.0, all_insert P hs i h p all.1)

all_after : {A : Type 0} (own : A → Name) (h : Rc A Global) (hs : List (Rc A Global))
    → ((j : ℕ) (d : Rc A Global) → j < length hs → compared_names (own (slice_index_or hs j d).value) (own h.value) ≡ Greater)
    → AllByRecursion (λ k. compared_names (own h.value) (own k) ≡ Less) (in_handles hs)
all_after own h [] each = tt
all_after own h (k ∷ hs) each = (
  nat_list_cmp_total.antisymm (folded (own h.value)) (folded (own k.value)) ∙ ap ordering_reverse (each 0 k (omega arith)),
  all_after own h hs (λ j d lt. each (suc j) d (omega (arith, lt))),
)

pub rise_insert : {A : Type 0} (own : A → Name) (hs : List (Rc A Global)) (i : ℕ) (h : Rc A Global) → IsGapOfName own (own h.value) hs i → RiseBy own (in_handles hs) → RiseBy own (in_handles (insert hs i h))
rise_insert own [] zero h is rise = (tt, tt)
rise_insert own [] (suc i) h is rise = (tt, tt)
rise_insert own (k ∷ hs) zero h is rise = (all_after own h (k ∷ hs) (λ j d lt. is.1 j d (omega arith) lt), rise)
rise_insert own (k ∷ hs) (suc i) h is rise = (
  all_insert (λ u. compared_names (own k.value) (own u) ≡ Less) hs i h (is.0 0 k (omega arith) (omega arith)) rise.0,
  rise_insert own hs i h (gap_rest own (own h.value) k hs i is) rise.1,
)

-- ---- some of them

all_left : {A : Type 0} (P : A → Type 0) (q : A → Bool) (xs : List A) → AllByRecursion P xs → AllByRecursion P (filter q xs)
all_left P q [] all = tt
all_left {A} P q (x ∷ xs) all = by (q x) (all_left P q xs all.1)
  where
    by : (b : Bool) → AllByRecursion P (filter q xs) → AllByRecursion P (cond b (x ∷ filter q xs) (filter q xs))
    by true rest = (all.0, rest)
    by false rest = rest

pub rise_left : {A : Type 0} (own : A → Name) (q : A → Bool) (xs : List A) → RiseBy own xs → RiseBy own (filter q xs)
rise_left own q [] rise = tt
rise_left {A} own q (x ∷ xs) rise = by (q x) (all_left (λ y. compared_names (own x) (own y) ≡ Less) q xs rise.0) (rise_left own q xs rise.1)
  where
    by : (b : Bool) → AllByRecursion (λ y. compared_names (own x) (own y) ≡ Less) (filter q xs) → RiseBy own (filter q xs) → RiseBy own (cond b (x ∷ filter q xs) (filter q xs))
    by true all rest = (all, rest)
    by false all rest = rest
