-- What is refused when out of memory, or for what a row's bytes are, isn't refused for its file.
use Rattle.std.proofs.Common.{◌≡◌, inl, inr}
use Rattle.sqlval.specs.declared.fault.Fault.{Fault}
use Rattle.sqlval.specs.declared.fault.Fault.TheVariants.{Memory}
use Rattle.sqlval.specs.Faults.{IsNotDiskFault}
use Rattle.record.specs.Rows.{IsRowFault}

pub memory_calm : (f : Fault) → f ≡ Memory → IsNotDiskFault f
memory_calm f e = (λ h. absurd cc, λ h. absurd cc)

pub row_calm : (f : Fault) → IsRowFault f → IsNotDiskFault f
row_calm f (inl e) = (λ h. absurd cc, λ h. absurd cc)
row_calm f (inr (inl e)) = (λ h. absurd cc, λ h. absurd cc)
row_calm f (inr (inr (inl e))) = (λ h. absurd cc, λ h. absurd cc)
row_calm f (inr (inr (inr e))) = (λ h. absurd cc, λ h. absurd cc)
