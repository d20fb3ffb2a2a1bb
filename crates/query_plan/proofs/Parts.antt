-- The parts that AND joins at the top of a condition.
use Rattle.std.proofs.Common.{◌≡◌, refl, sym, ap, ◌∙◌, ℕ, Bool, true, false, ◌&&◌, ◌||◌, List, [], ◌∷◌, ◌++◌, Option, Some, None, inl, inr, ◌⊎◌}
use mathlib.Core.Bool.{true≢false}
use Rattle.std.specs.List.{list_any}
use Rattle.std.specs.Option.{option_or}
use Rattle.std.specs.Prelude.{IfSome}
use Rattle.query_terms.specs.Terms.{Term, Two}
use Rattle.query_terms.specs.declared.tree.TwoSided.TheVariants.{And}
use Rattle.query_names.specs.Calm.{is_calm, parts}
use Rattle.query_plan.specs.Keys.{AsksPart}

pub left : (x y : Bool) → (x && y) ≡ true → x ≡ true
left true y h = refl
left false y h = h

pub right : (x y : Bool) → (x && y) ≡ true → y ≡ true
right true y h = h
right false y h = absurd (true≢false (sym h))

pub only : (b : Bool) → b || false ≡ true → b ≡ true
only true e = refl
only false e = e

-- a part of two lists is in one of them
pub in_either : (p : Term → Bool) (xs ys : List Term) → list_any p (xs ++ ys) ≡ true → (list_any p xs ≡ true) ⊎ (list_any p ys ≡ true)
in_either p [] ys h = inr h
in_either p (x ∷ xs) ys h = by (p x) refl h (in_either p xs ys) where
  by : (b : Bool) → p x ≡ b → b || list_any p (xs ++ ys) ≡ true → (list_any p (xs ++ ys) ≡ true → (list_any p xs ≡ true) ⊎ (list_any p ys ≡ true))
      → (p x || list_any p xs ≡ true) ⊎ (list_any p ys ≡ true)
  by true e h more = inl (ap (λ (b : Bool). b || list_any p xs) e)
  by false e h more = elim (more h) [ inl here ↦ inl (ap (λ (b : Bool). b || list_any p xs) e ∙ here) | inr there ↦ inr there ]

-- what one side of an AND asks for, or else the other
pub or_found : (test : ℕ → Term → Bool) (x y : Option ℕ) (xs ys : List Term) → IfSome x (λ k. list_any (test k) xs ≡ true) → IfSome y (λ k. list_any (test k) ys ≡ true)
    → IfSome (option_or x y) (λ k. list_any (test k) (xs ++ ys) ≡ true)
or_found test None None xs ys f g = f
or_found test None (Some k) xs ys f g = later xs where
  later : (xs : List Term) → list_any (test k) (xs ++ ys) ≡ true
  later [] = g
  later (x ∷ xs) = either (test k x) (later xs) where
    either : (b : Bool) → list_any (test k) (xs ++ ys) ≡ true → b || list_any (test k) (xs ++ ys) ≡ true
    either true more = refl
    either false more = more
or_found test (Some k) y xs ys f g = first xs f where
  first : (xs : List Term) → list_any (test k) xs ≡ true → list_any (test k) (xs ++ ys) ≡ true
  first [] e = absurd (true≢false (sym e))
  first (x ∷ xs) e = either (test k x) e (first xs) where
    either : (b : Bool) → b || list_any (test k) xs ≡ true → (list_any (test k) xs ≡ true → list_any (test k) (xs ++ ys) ≡ true) → b || list_any (test k) (xs ++ ys) ≡ true
    either true e more = refl
    either false e more = more e

-- a condition of which a part passes a test has such a part
pub passing : (test : Term → Bool) (t : Term) → list_any test (parts t) ≡ true → AsksPart (λ x. test x ≡ true) t
passing test (Two And a b) h = by (in_either test (parts a) (parts b) h) (passing test a) (passing test b) where
  by : (list_any test (parts a) ≡ true) ⊎ (list_any test (parts b) ≡ true) → (list_any test (parts a) ≡ true → AsksPart (λ x. test x ≡ true) a)
      → (list_any test (parts b) ≡ true → AsksPart (λ x. test x ≡ true) b) → AsksPart (λ x. test x ≡ true) (Two And a b)
  by (inl e) first second = inl (first e)
  by (inr e) first second = inr (second e)
passing test t h = only (test t) h

-- the part of a condition that can't be refused can't be either
pub calm_part : (P : Term → Type 0) (t : Term) → is_calm t ≡ true → AsksPart P t → (x : Term) × (is_calm x ≡ true) × P x
calm_part P (Two And a b) calm (inl h) = calm_part P a (left (is_calm a) (is_calm b) calm) h
calm_part P (Two And a b) calm (inr h) = calm_part P b (right (is_calm a) (is_calm b) calm) h
calm_part P t calm h = (t, calm, h)
