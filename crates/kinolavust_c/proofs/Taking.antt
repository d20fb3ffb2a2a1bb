-- A run that is answered had as many values as its statement takes.
use Rattle.std.proofs.Common.{◌≡◌, inl, inr, ℕ, Bool, subst}
use Rattle.std.specs.Prelude.{Result, Ok, Err, IfErr, IfOk, IsTrue, IsFalse}
use Rattle.std.proofs.lemmas.Bool.{cases_Bool, cases_eq}

pub ok_is_no_err : {X Y : Type 0} (x : X) (fault : Y) → Ok x ≡ Err fault → ⊥
ok_is_no_err {X} {Y} x fault is = subst (λ (r : Result X Y). IfErr r (λ _. ⊥)) is tt

-- what holds, holds beside what was answered
pub beside : {X Y : Type 0} (P : Type 0) (result : Result X Y) → P → IfOk result (λ _. P)
beside P (Ok x) holds = holds
beside P (Err fault) holds = tt

-- of the three causes of a refusal none was there
pub as_many : {NoConnection : Type 0} (has_failed : Bool) (given taken : ℕ) → (IsTrue has_failed → ⊥) → (IsFalse has_failed → NoConnection → ⊥) → (IsFalse has_failed → (NoConnection → ⊥) → (given ≡ taken → ⊥) → ⊥) → given ≡ taken
as_many has_failed given taken failed numbered placed =
    elim (cases_Bool has_failed) [
      | inl has ↦ absurd (failed has)
      | inr hasn ↦ elim (cases_eq given taken) [
        | inl same ↦ same
        | inr apart ↦ absurd (placed hasn (numbered hasn) apart)
      ]
    ]
