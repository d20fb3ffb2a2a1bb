-- What a refusal says where a call below was refused for want of memory.
use Rattle.std.proofs.Common.{◌≡◌, ◌∙◌, ℕ, inl, ap}
use Rattle.std.specs.Prelude.{Result, Ok, Err, MatchResult, IsErrAnd}
use Rattle.sqlval.specs.declared.fault.Fault.{Fault}
use Rattle.sqlval.specs.declared.fault.Fault.TheVariants.{Memory}
use Rattle.sqlval.specs.Faults.{IsOutside}
use Rattle.tree_table.specs.SingleLeaf.{placed}

-- a page's number isn't put to it
pub memory_outside : (number : ℕ) (fault is : Fault) → is ≡ placed number fault → fault ≡ Memory → IsOutside is
memory_outside number fault is same memory = inl (same ∙ ap (placed number) memory)

pub memory_err : {T : Type 0} (I : T → Type 0) (result : Result T Fault) (fault : Fault) → IsErrAnd result (λ e. e ≡ fault) → fault ≡ Memory → MatchResult result I IsOutside
memory_err I (Ok x) fault is memory = absurd is
memory_err I (Err e) fault is memory = inl (is ∙ memory)
