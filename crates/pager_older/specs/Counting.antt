-- How refusals and failed calls of a disk go together.
use Rattle.std.specs.Prelude.{◌≡◌, ◌≤◌, ℕ, Result, IfErr, OnOk}
use Rattle.disk.specs.Calls.{Rose}
use Rattle.sqlval.specs.declared.fault.Fault.{Fault}
use Rattle.sqlval.specs.declared.fault.Fault.TheVariants.{Io}

-- the count of failed calls didn't fall; it is what it was where the answer is no refusal, and `Io` comes only where it rose
pub record CountsIo {T : Type 0} (result : Result T Fault) (old new : ℕ) : Type 0 where
  pub counts : old ≤ new
  pub none_failed : OnOk result (new ≡ old)
  pub io : IfErr result (λ fault. fault ≡ Io → Rose old new)
