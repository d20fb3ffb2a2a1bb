-- Lists of written numbers that a number is looked for in.
use Rattle.std.proofs.Common.{◌≡◌, ◌<◌, ◌≤◌, ◌+◌, refl, sym, ap, ◌∙◌, ℕ, ℤ, Bool, true, false, List, [], length, drop, get_or, Option, Some, None, Ok}
use Rattle.std.proofs.lemmas.List.{drop_all}
use mathlib.Core.Bool.{true≢false}
use Rattle.std.specs.Ordering.{int_cmp, is_eq}
use Rattle.sqlval.specs.Refusals.{◌then◌}
use Rattle.sqlval.specs.declared.affinity.Affinity.{Affinity}
use Rattle.sqlval.specs.declared.affinity.Affinity.TheVariants as kind
use Rattle.sqlval.specs.declared.collation.Collation.{Collation}
use Rattle.sqlval.specs.declared.value.Value.{Value}
use Rattle.sqlval.specs.declared.value.Value.TheVariants.{Int}
use Rattle.query_terms.specs.TextSides.{is_text}
use Rattle.query_terms.specs.Terms.{Term, affinity, collation, terms}
use Rattle.query_terms.specs.Values.{Environment, compare, of_bool, of_truth, truth, value, value_among}
use Rattle.query_terms.specs.declared.tree.Comparison.TheVariants.{Equal}
use Rattle.query_terms.proofs.Among.{begins, equal_to, found_at, goes_on, together}

-- a number beside what has no affinity, where it isn't compared as a text
met : (c : Collation) (a : Option Affinity) (x y : ℤ) → is_text a ≡ false → compare Equal c a None (Int x) (Int y) ≡ Ok (of_bool (is_eq (int_cmp x y)))
met c (Some kind.Text) x y plain = absurd (true≢false plain)
met c None x y plain = refl
met c (Some kind.Integer) x y plain = refl
met c (Some kind.Numeric) x y plain = refl
met c (Some kind.Blob) x y plain = refl

truth_of_bool : (b : Bool) → truth (of_bool b) ≡ Ok (Some b)
truth_of_bool true = refl
truth_of_bool false = refl

-- the terms before a place are other numbers
abbrev pub Still : Term → Value → List Term → ℕ → Type 0
Still a v list i = (env : Environment) → together (Some false) (value_among a v (terms (drop i list)) env) ≡ value_among a v (terms list) env

pub starts : (a : Term) (v : Value) (list : List Term) → Still a v list 0
starts a v list env = begins a v (terms list) env

module _ (a : Term) (plain : is_text (affinity a) ≡ false) (v : Value) (x : ℤ) (v_is : v ≡ Int x) where
  equal_number : (e : Term) (env : Environment) (y : ℤ) → value e env ≡ Ok (Int y) → equal_to a v e env ≡ Ok (Some (is_eq (int_cmp x y)))
  equal_number e env y is =
      ap (λ w. equal_to a w e env) v_is
      ∙ ap (λ b. b then λ w. compare Equal (collation a) (affinity a) None (Int x) w then truth) is
      ∙ ap (λ b. b then truth) (met (collation a) (affinity a) x y plain)
      ∙ truth_of_bool (is_eq (int_cmp x y))

  module _ (list : List Term) (i : ℕ) (lt : i < length list) (e : Term) (e_is : e ≡ get_or list i e) (y : ℤ) (e_says : (env : Environment) → value e env ≡ Ok (Int y)) (still : Still a v list i) where
    -- it is the number
    pub is_here : is_eq (int_cmp x y) ≡ true → (env : Environment) → value_among a v (terms list) env ≡ Ok (of_truth (Some true))
    is_here same env =
        sym (still env)
        ∙ found_at a v list i e env (Some false) (Some true) lt e_is (equal_number e env y (e_says env) ∙ ap (λ (b : Bool). Ok (Some b)) same) refl

    -- it is another one
    pub is_another : is_eq (int_cmp x y) ≡ false → Still a v list (i + 1)
    is_another other env =
        goes_on a v list i e env (Some false) (Some false) (Some false) lt e_is (equal_number e env y (e_says env) ∙ ap (λ (b : Bool). Ok (Some b)) other) refl refl
        ∙ still env

-- all are other numbers
pub is_nowhere : (a : Term) (v : Value) (list : List Term) (i : ℕ) → length list ≤ i → Still a v list i → (env : Environment) → value_among a v (terms list) env ≡ Ok (of_truth (Some false))
is_nowhere a v list i le still env = sym (still env) ∙ ap (λ (es : List Term). together (Some false) (value_among a v (terms es) env)) (drop_all i list le)
