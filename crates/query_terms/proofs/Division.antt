-- Operators on numbers, where nothing is divided by 0.
use Rattle.std.proofs.Common.{◌≡◌, refl, zero, suc, ℤ, pos, negsuc}
use Rattle.std.specs.Prelude.{int_div, int_rem}
use Rattle.sqlval.specs.Conversion.{word}
use Rattle.query_terms.specs.declared.tree.Arithmetic.TheVariants.{Divide, Remainder}
use Rattle.query_terms.specs.Values.{arithmetic}

pub divided : (x y : ℤ) → (y ≡ pos 0 → ⊥) → word (int_div x y) ≡ arithmetic Divide x y
divided x (pos zero) h = absurd (h refl)
divided x (pos (suc n)) h = refl
divided x (negsuc n) h = refl

pub remains : (x y : ℤ) → (y ≡ pos 0 → ⊥) → word (int_rem x y) ≡ arithmetic Remainder x y
remains x (pos zero) h = absurd (h refl)
remains x (pos (suc n)) h = refl
remains x (negsuc n) h = refl
