-- A condition of which a part isn't true isn't true either, and isn't refused.
use Rattle.std.proofs.Common.{◌≡◌, refl, sym, ap, ◌∙◌, subst, Bool, true, false, Option, Some, None, Ok, Err, inl, inr}
use Rattle.sqlval.specs.Refusals.{Answer, ◌then◌}
use Rattle.sqlval.specs.declared.value.Value.{Value}
use Rattle.query_terms.specs.Terms.{Term, Two, Between}
use Rattle.query_terms.specs.Values.{Environment, and_after, and_also, between, both_hold, compared_as, of_bool, of_truth, truth, turned, value}
use Rattle.query_terms.specs.declared.tree.Comparison.TheVariants.{LessOrEqual, GreaterOrEqual}
use Rattle.query_terms.specs.declared.tree.TwoSided.TheVariants.{Compare, And}
use Rattle.query_names.specs.Calm.{is_calm}
use Rattle.query_names.proofs.CalmConditions.{calm_is_good}
use Rattle.query_plan.specs.Keys.{AsksPart}
use Rattle.query_plan.proofs.Parts.{left, right}

-- an answer whose truth value is such a one
abbrev pub IsOf : (Option Bool → Type 0) → Answer Value → Type 0
IsOf P a = (v : Value) × (a ≡ Ok v) × (u : Option Bool) × (truth v ≡ Ok u) × P u

-- AND is such a one where a side is, as it is of false and where it isn't of true
pub record SurvivesAnd (P : Option Bool → Type 0) : Type 0 where
  pub first : (t u : Option Bool) → P t → P (both_hold t u)
  pub second : (t u : Option Bool) → P u → P (both_hold t u)

truth_again : (t : Option Bool) → truth (of_truth t) ≡ Ok t
truth_again None = refl
truth_again (Some true) = refl
truth_again (Some false) = refl

module _ (P : Option Bool → Type 0) where
  after : (t : Option Bool) (w : Value) (u : Option Bool) → truth w ≡ Ok u → P (both_hold t u) → IsOf P (and_after t (Ok w))
  after (Some false) w u h p = (of_bool false, refl, Some false, refl, p)
  after (Some true) w u h p = (of_truth u, ap (λ x. x then λ y. Ok (of_truth (both_hold (Some true) y))) h, u, truth_again u, p)
  after None w u h p = (of_truth (both_hold None u), ap (λ x. x then λ y. Ok (of_truth (both_hold None y))) h, both_hold None u, truth_again (both_hold None u), p)

  both : (a b : Answer Value) (v : Value) (t : Option Bool) (w : Value) (u : Option Bool) → a ≡ Ok v → truth v ≡ Ok t → b ≡ Ok w → truth w ≡ Ok u → P (both_hold t u)
      → IsOf P (a then λ x. and_also x b)
  both a b v t w u e f g h p =
      subst (IsOf P) (sym (ap (λ x. x then λ y. and_also y b) e ∙ (ap (λ x. x then λ y. and_after y b) f ∙ ap (and_after t) g))) (after t w u h p)

module _ (P : Option Bool → Type 0) (survives : SurvivesAnd P) (Q : Term → Type 0) (env : Environment) (of_part : (x : Term) → is_calm x ≡ true → Q x → IsOf P (value x env)) where
  pub of_whole : (t : Term) → is_calm t ≡ true → AsksPart Q t → IsOf P (value t env)
  of_whole (Two And a b) calm (inl h) =
      let x = of_whole a (left (is_calm a) (is_calm b) calm) h in
      let y = calm_is_good b (right (is_calm a) (is_calm b) calm) env in
      both P (value a env) (value b env) x.0 x.2 y.0 y.2 x.1 x.3 y.1 y.3 (survives.first x.2 y.2 x.4)
  of_whole (Two And a b) calm (inr h) =
      let x = calm_is_good a (left (is_calm a) (is_calm b) calm) env in
      let y = of_whole b (right (is_calm a) (is_calm b) calm) h in
      both P (value a env) (value b env) x.0 x.2 y.0 y.2 x.1 x.3 y.1 y.3 (survives.second x.2 y.2 y.4)
  of_whole t calm h = of_part t calm h

-- ---- BETWEEN

turned_not : (answer : Answer Value) → (answer then turned false) ≡ answer
turned_not (Ok v) = refl
turned_not (Err refusal) = refl

-- BETWEEN is the AND of two comparisons
pub between_is_and : (a b c : Term) (env : Environment) → value (Between false a b c) env ≡ value (Two And (Two (Compare GreaterOrEqual) a b) (Two (Compare LessOrEqual) a c)) env
between_is_and a b c env = of_operand (value a env) (value b env) where
  second : Value → Answer Value
  second v = value c env then compared_as LessOrEqual a c v

  of_operand : (x y : Answer Value) → (x then λ v. between a b c v y (value c env) then turned false)
      ≡ ((x then λ v. y then compared_as GreaterOrEqual a b v) then λ t. and_also t (x then second))
  of_operand (Err refusal) y = refl
  of_operand (Ok v) (Err refusal) = refl
  of_operand (Ok v) (Ok w) = turned_not (compared_as GreaterOrEqual a b v w then λ t. and_also t (second v))
