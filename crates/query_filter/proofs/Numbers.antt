-- A column beside a number.
use Rattle.std.proofs.Common.{◌≡◌, refl, ap, ◌∙◌, ℤ, Bool, true, false, None, Some, Ok}
use mathlib.Core.Bool.{true≢false}
use Rattle.std.specs.Ordering.{int_cmp}
use Rattle.sqlval.specs.Refusals.{Answer, ◌then◌}
use Rattle.sqlval.specs.declared.value.Value.{Value}
use Rattle.sqlval.specs.declared.value.Value.TheVariants.{Null, Int}
use Rattle.query_terms.specs.Laws.{IntegersStandByOrder}
use Rattle.query_terms.specs.Terms.{Term, Const, Digits, Cell, Key, Apply, Total, One, Two, Collate, In, Between, Raise, affinity}
use Rattle.query_terms.specs.TextSides.{is_text}
use Rattle.query_terms.specs.Values.{Environment, is_met, truth, value}
use Rattle.query_terms.specs.declared.tree.Comparison.{Comparison}
use Rattle.query_terms.specs.declared.tree.TwoSided.TheVariants.{Compare}
use Rattle.query_filter.specs.Literals.{literal_value, stays_beside}
use Rattle.query_filter.proofs.AmongPlain.{plain_value}

abbrev is_null : Value → Bool
is_null Null = true
is_null _ = false

not_null : (n : ℤ) {A : Type 0} → Null ≡ Int n → A
not_null n e = absurd (true≢false (ap is_null e))

-- a literal that is a number has no affinity
plain_side : (e : Term) (n : ℤ) → literal_value e ≡ Int n → is_text (affinity e) ≡ false
plain_side (Const v) n e = refl
plain_side (Digits k) n e = refl
plain_side (Cell s p a c) n e = not_null n e
plain_side (Key k t) n e = not_null n e
plain_side (Apply f ts) n e = refl
plain_side (Total g t) n e = refl
plain_side (One o t) n e = refl
plain_side (Two o t u) n e = refl
plain_side (Collate c t) n e = not_null n e
plain_side (In b t ts) n e = refl
plain_side (Between b t u v) n e = refl
plain_side (Raise k t) n e = refl

pub number_stands : IntegersStandByOrder → (comparison : Comparison) (left right : Term) (env : Environment) (x n : ℤ) → is_text (affinity left) ≡ false → literal_value right ≡ Int n → value left env ≡ Ok (Int x)
    → (value (Two (Compare comparison) left right) env then truth) ≡ Ok (Some (is_met comparison (int_cmp x n)))
number_stands law comparison left right env x n plain known is =
    law comparison left right env x n plain (plain_side right n known) is
    (plain_value None right env (ap (stays_beside None) known) ∙ ap (λ (v : Value). let a : Answer Value = Ok v in a) known)
