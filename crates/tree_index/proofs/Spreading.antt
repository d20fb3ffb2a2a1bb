-- Exits of calls that store packed pages.
use Rattle.std.proofs.Common.{◌≡◌, ℕ, [], ◌∷◌, sym, subst, inl}
use Rattle.std.specs.Prelude.{Result, Ok, Err, MatchResult}
use Rattle.sqlval.specs.Faults.{IsOutside}
use Rattle.sqlval.specs.declared.fault.Fault.{Fault}
use Rattle.sqlval.specs.declared.fault.Fault.TheVariants.{Memory}
use Rattle.pages.specs.Calls.{IsOutsideOrFull}
use Rattle.pages.specs.Map.{PageMap}
use Rattle.tree_pack.specs.declared.spreading.Packed.{Packed}
use Rattle.tree_store.specs.Storing.{Stores}
use Rattle.tree_store.specs.declared.storing.Fan.{Fan}

pub stores_two : (mid new : PageMap) (size a b left right : ℕ) → a ≡ left → b ≡ right → (packed : Packed) (result : Result Fan Fault) → Stores mid new size (left ∷ right ∷ []) packed result → Stores mid new size (a ∷ b ∷ []) packed result
stores_two mid new size a b left right left_is right_is packed result stores =
    subst (λ (n : ℕ). Stores mid new size (n ∷ b ∷ []) packed result) (sym left_is) (subst (λ (n : ℕ). Stores mid new size (left ∷ n ∷ []) packed result) (sym right_is) stores)

pub memory_full : {T : Type 0} (P : T → Type 0) (result : Result T Fault) → MatchResult result P (λ fault. fault ≡ Memory) → MatchResult result P IsOutsideOrFull
memory_full P (Ok x) is = is
memory_full P (Err fault) memory = inl (inl memory)

pub outside_or_full : {T : Type 0} (P : T → Type 0) (result : Result T Fault) → MatchResult result P IsOutside → MatchResult result P IsOutsideOrFull
outside_or_full P (Ok x) is = is
outside_or_full P (Err fault) outside = inl outside

pub memory_outside : {T : Type 0} (P : T → Type 0) (result : Result T Fault) → MatchResult result P (λ fault. fault ≡ Memory) → MatchResult result P IsOutside
memory_outside P (Ok x) is = is
memory_outside P (Err fault) memory = inl memory
