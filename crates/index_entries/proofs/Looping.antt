-- Rows one after another: what the tree becomes of those that are left decides what it becomes of all.
use Rattle.std.proofs.Common.{◌≡◌, refl, sym, subst, ◌<◌, ℕ, Bool, List, [], ◌∷◌, length, map, IsTrue, Ok, arith}
use Rattle.std.specs.Prelude.{Result, ⊤}
use Rattle.sqlval.specs.declared.fault.Fault.{Fault}
use Rattle.pages.specs.Calls.{Causes, Limits}
use Rattle.pages.specs.Map.{PageMap}
use Rattle.index_entries.specs.Entries.{Row}

-- The pages stand as they did; and what becomes of the rows that are left, from here on, is what becomes of all from the first on.
pub record IsOn {P K X : Type 0} (below : P → K) (tells : K → Bool) (limits : K → Limits) (pages : P → PageMap) (failures : P → ℕ × ℕ)
    (Becomes : PageMap → PageMap → ℕ → X → Result ⊤ Fault → Type 0) (old now : P) (all left : X) : Type 0 where
  pub kept : below now ≡ below old
  pub causes : Causes {T = ⊤} (Ok tt) (failures old) (failures now) ⊥
  pub decides : IsTrue (tells (below old)) → (new : PageMap) (result : Result ⊤ Fault)
      → Becomes (pages now) new (limits (below old)).page left result → Becomes (pages old) new (limits (below old)).page all result

-- what one call does it does from before the first
pub since : {P K : Type 0} (below : P → K) (tells : K → Bool) (limits : K → Limits) (old mid : P) (Does : ℕ → Type 0) → below mid ≡ below old
    → (IsTrue (tells (below mid)) → Does (limits (below mid)).page) → IsTrue (tells (below old)) → Does (limits (below old)).page
since {P} {K} below tells limits old mid Does kept does told =
    subst (λ (k : K). Does (limits k).page) kept (does (subst (λ (k : K). IsTrue (tells k)) (sym kept) told))

pub none_left : {A : Type 0} (row_of : A → Row) (left : List A) → length left < 1 → map row_of left ≡ []
none_left row_of [] few = refl
none_left row_of (first ∷ left) few = absurd (omega (arith, few))
