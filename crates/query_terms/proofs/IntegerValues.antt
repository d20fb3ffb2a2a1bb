-- Expressions that are integers.
use Rattle.std.proofs.Common.{◌≡◌, refl, ap, ◌∙◌, ℤ, Bool, pos, negsuc, zero, suc, true, false, Option, Some, None, Ok}
use mathlib.Core.Bool.{true≢false}
use Rattle.std.specs.Ordering.{int_cmp}
use Rattle.sqlval.specs.Refusals.{Answer, ◌then◌}
use Rattle.sqlval.specs.declared.affinity.Affinity.{Affinity}
use Rattle.sqlval.specs.declared.affinity.Affinity.TheVariants as kind
use Rattle.sqlval.specs.declared.collation.Collation.{Collation}
use Rattle.sqlval.specs.declared.value.Value.{Value}
use Rattle.sqlval.specs.declared.value.Value.TheVariants.{Int}
use Rattle.query_terms.specs.Laws.{IntegersStandByOrder}
use Rattle.query_terms.specs.TextSides.{is_text}
use Rattle.query_terms.specs.Terms.{Term, Two, affinity, collation_of_two}
use Rattle.query_terms.specs.Values.{Environment, arithmetic, compare, is_met, of_bool, on_numbers, truth, value}
use Rattle.query_terms.specs.declared.tree.Arithmetic.{Arithmetic}
use Rattle.query_terms.specs.declared.tree.Comparison.{Comparison}
use Rattle.query_terms.specs.declared.tree.TwoSided.TheVariants.{Calculate, Compare}

module _ (left right : Term) (env : Environment) (x y : ℤ) (x_is : value left env ≡ Ok (Int x)) (y_is : value right env ≡ Ok (Int y)) where
  pub both_calculated : (operator : Arithmetic) (number : ℤ) → arithmetic operator x y ≡ Ok (Int number) → value (Two (Calculate operator) left right) env ≡ Ok (Int number)
  both_calculated operator number is =
      ap (λ a. a then λ v. value right env then λ w. on_numbers (arithmetic operator) v w) x_is ∙ ap (λ b. b then λ w. on_numbers (arithmetic operator) (Int x) w) y_is ∙ is

  -- neither side is compared as a text
  met : (o : Comparison) (c : Collation) (a b : Option Affinity) → is_text a ≡ false → is_text b ≡ false → compare o c a b (Int x) (Int y) ≡ Ok (of_bool (is_met o (int_cmp x y)))
  met o c (Some kind.Text) b e f = absurd (true≢false e)
  met o c None (Some kind.Text) e f = absurd (true≢false f)
  met o c (Some kind.Integer) (Some kind.Text) e f = absurd (true≢false f)
  met o c (Some kind.Numeric) (Some kind.Text) e f = absurd (true≢false f)
  met o c (Some kind.Blob) (Some kind.Text) e f = absurd (true≢false f)
  met o c None None e f = refl
  met o c None (Some kind.Integer) e f = refl
  met o c None (Some kind.Numeric) e f = refl
  met o c None (Some kind.Blob) e f = refl
  met o c (Some kind.Integer) None e f = refl
  met o c (Some kind.Integer) (Some kind.Integer) e f = refl
  met o c (Some kind.Integer) (Some kind.Numeric) e f = refl
  met o c (Some kind.Integer) (Some kind.Blob) e f = refl
  met o c (Some kind.Numeric) None e f = refl
  met o c (Some kind.Numeric) (Some kind.Integer) e f = refl
  met o c (Some kind.Numeric) (Some kind.Numeric) e f = refl
  met o c (Some kind.Numeric) (Some kind.Blob) e f = refl
  met o c (Some kind.Blob) None e f = refl
  met o c (Some kind.Blob) (Some kind.Integer) e f = refl
  met o c (Some kind.Blob) (Some kind.Numeric) e f = refl
  met o c (Some kind.Blob) (Some kind.Blob) e f = refl

  pub both_compared : (operator : Comparison) → is_text (affinity left) ≡ false → is_text (affinity right) ≡ false
      → value (Two (Compare operator) left right) env ≡ Ok (of_bool (is_met operator (int_cmp x y)))
  both_compared operator e f =
      ap (λ a. a then λ v. value right env then λ w. compare operator (collation_of_two left right) (affinity left) (affinity right) v w) x_is
      ∙ ap (λ b. b then λ w. compare operator (collation_of_two left right) (affinity left) (affinity right) (Int x) w) y_is
      ∙ met operator (collation_of_two left right) (affinity left) (affinity right) e f

-- an integer is true where it isn't 0
pub is_true : (a : Answer Value) (z : ℤ) → a ≡ Ok (Int z) → (z ≡ pos 0 → ⊥) → (a then truth) ≡ Ok (Some true)
is_true a (pos zero) e apart = absurd (apart refl)
is_true a (pos (suc n)) e apart = ap (λ b. b then truth) e
is_true a (negsuc n) e apart = ap (λ b. b then truth) e

pub is_false : (a : Answer Value) (z : ℤ) → a ≡ Ok (Int z) → z ≡ pos 0 → (a then truth) ≡ Ok (Some false)
is_false a z e is = ap (λ b. b then truth) (e ∙ ap (λ (n : ℤ). Ok (Int n)) is)

truth_met : (b : Bool) → truth (of_bool b) ≡ Ok (Some b)
truth_met true = refl
truth_met false = refl

-- two integers are compared by their order
pub by_order : IntegersStandByOrder
by_order comparison left right env x y plain other x_is y_is =
    ap (λ b. b then truth) (both_compared left right env x y x_is y_is comparison plain other) ∙ truth_met (is_met comparison (int_cmp x y))
