-- Items one after another, as indexes: what becomes of the trees by those that are left decides what becomes of them by all.
use Rattle.std.proofs.Common.{◌≡◌, refl, sym, ap, subst, ◌∙◌, ◌≤◌, ◌<◌, ◌-◌, ℕ, Bool, List, [], ◌∷◌, length, take, drop, slice_index_or, IsTrue, Ok, arith}
use Rattle.std.proofs.lemmas.List.{take_all}
use Rattle.std.specs.Prelude.{Result, ⊤}
use Rattle.sqlval.specs.declared.fault.Fault.{Fault}
use Rattle.pages.specs.Calls.{Causes, Limits}
use Rattle.pages.specs.Map.{PageMap}

-- The pages stand as they did; and what becomes of the trees by what is left, as of the indexes that are left, from here on, is what becomes of
-- them by all from the first on.
pub record IsOn {P K A : Type 0} (below : P → K) (tells : K → Bool) (limits : K → Limits) (pages : P → PageMap) (failures : P → ℕ × ℕ)
    (Becomes : PageMap → PageMap → ℕ → A → Result ⊤ Fault → Type 0) (old now : P) (all left : A) : Type 0 where
  pub kept : below now ≡ below old
  pub causes : Causes {T = ⊤} (Ok tt) (failures old) (failures now) ⊥
  pub decides : IsTrue (tells (below old)) → (new : PageMap) (result : Result ⊤ Fault)
      → Becomes (pages now) new (limits (below old)).page left result → Becomes (pages old) new (limits (below old)).page all result

-- what a call does it does from before the first
pub since : {P K : Type 0} (below : P → K) (tells : K → Bool) (limits : K → Limits) (old mid : P) (Does : ℕ → Type 0) → below mid ≡ below old
    → (IsTrue (tells (below mid)) → Does (limits (below mid)).page) → IsTrue (tells (below old)) → Does (limits (below old)).page
since {P} {K} below tells limits old mid Does kept does told =
    subst (λ (k : K). Does (limits k).page) kept (does (subst (λ (k : K). IsTrue (tells k)) (sym kept) told))

-- what a call does to pages that were only read before
pub after_reading : {P K : Type 0} (below : P → K) (tells : K → Bool) (limits : K → Limits) (pages : P → PageMap) (old mid : P) (Does : PageMap → ℕ → Type 0) → below mid ≡ below old → pages mid ≡ pages old
    → (IsTrue (tells (below mid)) → Does (pages mid) (limits (below mid)).page) → IsTrue (tells (below old)) → Does (pages old) (limits (below old)).page
after_reading {P} {K} below tells limits pages old mid Does kept same does told =
    subst (λ (m : PageMap). Does m (limits (below old)).page) same (since below tells limits old mid (Does (pages mid)) kept does told)

-- the first item and the others
all_taken : {A : Type 0} (item : A) (items : List A) → take (length (item ∷ items) - 1) items ≡ items
all_taken item items = (let e : length (item ∷ items) - 1 ≡ length items = omega arith in ap (λ (n : ℕ). take n items) e ∙ take_all (length items) items (omega arith))

pub first_of : {A : Type 0} (left : List A) (item : A) → 1 ≤ length left → item ≡ slice_index_or left 0 item → item ∷ take (length left - 1) (drop 1 left) ≡ left
first_of [] item some is = absurd (omega (arith, some))
first_of {A} (first ∷ left) item some is = ap (λ (i : A). i ∷ take (length (first ∷ left) - 1) left) is ∙ ap (λ (rest : List A). first ∷ rest) (all_taken first left)

pub none_left : {A : Type 0} (left : List A) → length left < 1 → [] ≡ left
none_left [] few = refl
none_left (first ∷ left) few = absurd (omega (arith, few))
