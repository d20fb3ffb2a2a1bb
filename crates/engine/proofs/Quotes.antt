-- A text without quotes stands as it is.
use Rattle.std.proofs.Common.{◌≡◌, refl, ap, ◌∙◌, ℕ, List, [], ◌∷◌, ◌++◌}
use Rattle.std.specs.List.{flat_map, list_any}
use Rattle.std.specs.Prelude.{Bool, true, false, ◌==◌, ◌||◌, if◌then◌else◌}
use Rattle.std.proofs.lemmas.Bool.{true≢false}
use Rattle.engine.specs.Output.{doubled}

pub without_quotes : (text : List ℕ) → list_any (λ b. b == 39) text ≡ false → flat_map doubled text ≡ text
without_quotes [] none = refl
without_quotes (b ∷ text) none = by (b == 39) none (without_quotes text)
  where
    by : (q : Bool) → (q || list_any (λ b. b == 39) text) ≡ false → (list_any (λ b. b == 39) text ≡ false → flat_map doubled text ≡ text)
        → (if q then 39 ∷ 39 ∷ [] else b ∷ []) ++ flat_map doubled text ≡ b ∷ text
    by true e rest = absurd (true≢false e)
    by false e rest = ap (λ (bs : List ℕ). b ∷ bs) (rest e)
