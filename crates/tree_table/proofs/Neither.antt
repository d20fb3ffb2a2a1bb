-- A page that is refused.
use Rattle.std.proofs.Common.{◌≡◌, refl, Result, Ok, Err}
use Rattle.std.specs.Prelude.{IfErr}
use Rattle.sqlval.specs.declared.fault.Fault.{Fault}

-- what isn't refused, and isn't answered either, isn't there
pub neither : {X : Type 0} (r : Result X Fault) → IfErr r (λ fault. ⊥) → ((x : X) → r ≡ Ok x → ⊥) → ⊥
neither (Ok x) none other = other x refl
neither (Err f) none other = none
