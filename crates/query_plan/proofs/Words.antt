-- The number of the rowid that a condition seeks fits a word, since the condition can't be refused.
use Rattle.std.proofs.Common.{◌≡◌, sym, ap, ◌∙◌, ℕ, ℤ, pos, true, ◌==◌, Result, Ok, Err, arith}
use Rattle.std.specs.Prelude.{FitsSigned, IfNone, OkIff}
use Rattle.std.specs.Int.{w64}
use Rattle.std.specs.Result.{result_ok}
use Rattle.std.proofs.lemmas.Bool.{eqb-true}
use Rattle.std.proofs.lemmas.Bool.Decides.{nat_tests}
use mathlib.Core.Bool.{true≢false}
use Rattle.sqlval.specs.Conversion.{is_word}
use Rattle.query_terms.specs.Terms.{Term, Cell, Digits, Two}
use Rattle.query_terms.specs.declared.tree.Comparison.TheVariants.{Equal}
use Rattle.query_terms.specs.declared.tree.Place.TheVariants.{RowId}
use Rattle.query_terms.specs.declared.tree.TwoSided.TheVariants.{Compare}
use Rattle.query_names.specs.Calm.{is_calm}
use Rattle.query_plan.specs.Seeking.{Seeks, is_rowid}
use Rattle.query_plan.proofs.Others.{word_of}
use Rattle.query_plan.proofs.Parts.{calm_part, passing, right}

module _ (source k : ℕ) where
  is_fit : (t : Term) → is_calm t ≡ true → is_rowid source k t ≡ true → is_word (pos k) ≡ true
  is_fit (Two (Compare Equal) (Cell s RowId a c) (Digits j)) calm both =
      ap (λ (n : ℕ). is_word (pos n)) (sym (eqb-true j k (right (s == source) (j == k) both))) ∙ word_of s RowId a c j calm
  is_fit _ calm h = absurd (true≢false (sym h))

fits_word : (n : ℕ) → is_word (pos n) ≡ true → FitsSigned w64 (pos n)
fits_word n word = record { sfits = grind (arith, nat_tests) }

sought_fits : (source k : ℕ) (condition : Term) → Seeks source condition k → is_word (pos k) ≡ true
sought_fits source k condition seeks =
    (let it = calm_part (λ t. is_rowid source k t ≡ true) condition seeks.calm (passing (is_rowid source k) condition seeks.part) in is_fit source k it.0 it.1 it.2)

-- so it is a number of 64 bits with a sign
pub rowid_only : {E : Type 0} (Missed : Type 0) (source k : ℕ) (condition : Term) → Seeks source condition k → (tried : Result ℤ E) → OkIff tried (FitsSigned w64 (pos k)) (pos k) → IfNone (result_ok tried) Missed
rowid_only Missed source k condition seeks (Ok rowid) is = tt
rowid_only Missed source k condition seeks (Err error) not_fit = absurd (not_fit (fits_word k (sought_fits source k condition seeks)))
