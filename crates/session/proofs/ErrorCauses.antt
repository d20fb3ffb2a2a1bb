-- Why calls are refused.
use Rattle.std.proofs.Common.{◌≡◌, sym, subst, ℕ, Bool, true}
use Rattle.std.specs.Prelude.{IsTrue, Result}
use Rattle.sqlval.specs.declared.fault.Fault.{Fault}
use Rattle.pages.specs.Calls.{Causes}

-- what may be full where it is known that it may
pub causes_for : {T : Type 0} (flag : Bool) (result : Result T Fault) (old new : ℕ × ℕ) → flag ≡ true → Causes result old new (IsTrue true) → Causes result old new (IsTrue flag)
causes_for flag result old new is causes = subst (λ (f : Bool). Causes result old new (IsTrue f)) (sym is) causes
